use Rattle.std.proofs.Common.{◌≡◌, List, [], ◌++◌, length, sym, ap, ◌∙◌, arith}
use mathlib.Core.List.{append-nil}
use Rattle.std.specs.Prelude.{map}
use Rattle.std.specs.Map.Iter.{deref}
use Rattle.std.proofs.lemmas.Map.Iter.{rest_so_far}
use Rattle.std.proofs.lemmas.List.{length-map}
use Rattle.seg_list.specs.Buffer.{Buffer}
use Rattle.mbuf_chain.specs.Chain.{packet_of}
use Rattle.mbuf_chain.specs.Ends.{cut_to}
use Rattle.mbuf_chain.proofs.EndPackets.{cut_to-here}
use Rattle.mbuf_chain.proofs.mbuf.end_of.Goals as goal

pub returns-then-left-n : goal.returns-then-left-n
returns-then-left-n c =
    let front : List Buffer = map deref c.loop-seg.yielded in
    let here : Buffer = c.in-Some.seg.now in
    let left = c.loop-seg.left in
    let so_far : c.into_iter-seg-iterator.result ≡ front ++ c.loop-seg.seg-iterator = rest_so_far deref _ _ _ c.loop-seg.yielded_by in
    let few = c.len-n.ensures.value in
    record {
      front = front;
      here = here;
      back = c.next.new.self;
      is = sym (c.into_iter-seg-iterator.ensures.into_iter_gives ∙ c.iter-seg-items.ensures.rest) ∙ so_far ∙ ap (λ (l : List Buffer). front ++ l) c.in-Some.ensures.steps;
      at = c.loop-seg.invariant.count ∙ sym (length-map c.loop-seg.yielded deref);
      inside = omega (arith, few);
      cut = c.loop-seg.invariant.cut ∙ ap (λ (l : List Buffer). front ++ cut_to left l) c.in-Some.ensures.steps
          ∙ ap (λ (l : List Buffer). front ++ l) (cut_to-here left here c.next.new.self (omega (arith, few)));
    }

pub unreachable-requires : goal.unreachable-requires
unreachable-requires c =
    let front : List Buffer = map deref c.loop-seg.yielded in
    let so_far : c.into_iter-seg-iterator.result ≡ front ++ c.loop-seg.seg-iterator = rest_so_far deref _ _ _ c.loop-seg.yielded_by in
    let all : c.args.segs.now ≡ front ++ [] =
    sym (c.into_iter-seg-iterator.ensures.into_iter_gives ∙ c.iter-seg-items.ensures.rest) ∙ so_far ∙ ap (λ (l : List Buffer). front ++ l) c.in-None.ensures.steps.0 in
    let same : c.args.segs.now ≡ front = all ∙ append-nil front in
    let count = c.loop-seg.invariant.count ∙ sym (length-map c.loop-seg.yielded deref) in
    let left = c.loop-seg.invariant.more (omega (arith, count, ap length same, c.requires.some)) in
    omega (arith, left, c.loop-seg.invariant.far, c.requires.within, ap (λ (l : List Buffer). length (packet_of l)) same)
