use Rattle.std.proofs.Common.{◌≡◌, List, ◌∷◌, ◌++◌, sym, ◌∙◌, ap}
use Rattle.std.specs.Prelude.{map}
use Rattle.std.specs.Map.Iter.{deref}
use Rattle.std.proofs.lemmas.Map.Iter.{rest_so_far}
use Rattle.seg_list.specs.Buffer.{Buffer}
use Rattle.capture_io.proofs.Framing.{on_err_from}
use Rattle.capture_io.proofs.Parts.{part_of_packet}
use Rattle.capture_io.proofs.writing.write_segs.Goals as goal

pub returns-in_err-write_all-clause-fault : goal.returns-in_err-write_all-clause-fault
returns-in_err-write_all-clause-fault g c told =
    let so_far : c.into_iter-seg-iterator.result ≡ map deref c.loop-seg.yielded ++ c.loop-seg.seg-iterator = rest_so_far deref _ _ _ c.loop-seg.yielded_by in
    let all : c.args.segs.now ≡ map deref c.loop-seg.yielded ++ c.in-Some.seg.now ∷ c.next.new.self =
    sym (c.into_iter-seg-iterator.ensures.into_iter_gives ∙ c.iter-seg-items.ensures.rest) ∙ so_far ∙ ap (λ (l : List Buffer). map deref c.loop-seg.yielded ++ l) c.in-Some.ensures.steps in
    on_err_from _ (part_of_packet c.args.segs.now (map deref c.loop-seg.yielded) c.next.new.self c.in-Some.seg.now c.data.result.now _ _ _ all c.data.ensures.value (c.loop-seg.invariant.written told) (c.in_err-write_all.ensures.fault told))
