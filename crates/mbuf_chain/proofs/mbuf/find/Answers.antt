use Rattle.std.proofs.Common.{◌≡◌, List, ◌∷◌, ◌++◌, sym, ap, ◌∙◌, arith}
use Rattle.std.specs.Prelude.{map}
use Rattle.std.specs.Map.Iter.{deref}
use Rattle.std.proofs.lemmas.Map.Iter.{rest_so_far}
use Rattle.std.proofs.lemmas.List.{length-map}
use Rattle.seg_list.specs.Buffer.{Buffer}
use Rattle.mbuf_chain.proofs.Splits.{lies_behind}
use Rattle.mbuf_chain.proofs.mbuf.find.Goals as goal

pub returns-then-at-n-clause-lies : goal.returns-then-at-n-clause-lies
returns-then-at-n-clause-lies c = λ b is.
    let front : List Buffer = map deref c.loop-seg.yielded in
    let so_far : c.into_iter-seg-iterator.result ≡ front ++ c.loop-seg.seg-iterator = rest_so_far deref _ _ _ c.loop-seg.yielded_by in
    let all : c.args.segs.now ≡ front ++ c.in-Some.seg.now ∷ c.next.new.self =
    sym (c.into_iter-seg-iterator.ensures.into_iter_gives ∙ c.iter-seg-items.ensures.rest) ∙ so_far ∙ ap (λ (l : List Buffer). front ++ l) c.in-Some.ensures.steps in
    let n = c.len-n.ensures.value in
    lies_behind front c.in-Some.seg.now c.next.new.self c.args.segs.now c.args.off c.loop-seg.i c.loop-seg.at b all
    (c.loop-seg.invariant.1 ∙ sym (length-map c.loop-seg.yielded deref)) c.loop-seg.invariant.0 (omega (arith, n)) is
