use Rattle.std.proofs.Common.{◌≡◌, [], ◌∷◌, ◌++◌, length, sym, ap, ◌∙◌, arith, length-append}
use Rattle.std.specs.Prelude.{map}
use Rattle.std.specs.Map.Iter.{deref}
use Rattle.std.proofs.lemmas.Map.Iter.{rest_so_far}
use Rattle.std.proofs.lemmas.List.{map-append}
use Rattle.mbuf_chain.proofs.Kept.{most_bytes, one_more}
use Rattle.mbuf_chain.proofs.mbuf.bytes_in.Goals as goal

pub overflow_add-all : goal.overflow_add-all
overflow_add-all c =
    let so_far : c.into_iter-seg-iterator.result ≡ map deref c.loop-seg.yielded ++ c.loop-seg.seg-iterator = rest_so_far deref _ _ _ c.loop-seg.yielded_by in
    let all : c.args.segs.now ≡ map deref c.loop-seg.yielded ++ c.loop-seg.seg-iterator = sym (c.into_iter-seg-iterator.ensures.into_iter_gives ∙ c.iter-seg-items.ensures.rest) ∙ so_far in
    omega (
      arith,
      ap length all,
      length-append (map deref c.loop-seg.yielded) c.loop-seg.seg-iterator,
      most_bytes (map deref c.loop-seg.yielded) c.loop-seg.invariant.1,
      c.loop-seg.invariant.0,
      c.len-most.ensures.most,
      c.len-all.ensures.whole,
      c.len-all.ensures.value,
    )

pub loop-seg-preserved : goal.loop-seg-preserved
loop-seg-preserved c =
    rw (map-append deref c.loop-seg.yielded (c.in-Some.seg ∷ []))
    (one_more (map deref c.loop-seg.yielded) c.loop-seg.all c.in-Some.seg.now c.len-all.result c.loop-seg.invariant.0 c.loop-seg.invariant.1 c.len-all.ensures.value c.len-all.ensures.whole)
