use Rattle.std.proofs.Common.{◌≡◌, List, map, length, drop, ap, subst, ◌∙◌, arith}
use Rattle.std.specs.List.{flat_map}
use Rattle.packet_flow.specs.declared.mark.Mark.{Mark}
use Rattle.packet_flow.specs.Marks.{mark_bytes, mark_len}
use Rattle.packet_flow.proofs.Spelled.{first_item, first_part, lens, within_behind}
use Rattle.packet_flow.proofs.run.Run.first.Goals as goal

pub slice_bounds-record-end : goal.slice_bounds-record-end
slice_bounds-record-end c =
    let run = c.args.self.now in
    let m = c.index-mark.result.now in
    let ms = drop 1 run.marks.items in
    let front = first_item run.marks.items m run.some c.index-mark.ensures in
    let inside = within_behind run.big run.bytes.items run.from m ms run.within (run.text ∙ ap (flat_map (mark_bytes run.big)) front)
    (subst (λ (l : List Mark). map mark_len l ≡ lens run.big l) front run.lens) in
    omega (arith, inside, ap length c.as_slice-bytes.ensures.value)

pub returns : goal.returns
returns c =
    let run = c.args.self.now in
    let m = c.index-mark.result.now in
    let ms = drop 1 run.marks.items in
    let front = first_item run.marks.items m run.some c.index-mark.ensures in (
      m,
      ms,
      front,
      first_part run.big run.bytes.items run.from m ms run.within (run.text ∙ ap (flat_map (mark_bytes run.big)) front)
          (subst (λ (l : List Mark). map mark_len l ≡ lens run.big l) front run.lens) c.as_slice-bytes.result.now c.as_slice-bytes.ensures.value,
      m.fate_is,
    )
