use Rattle.std.proofs.Common.{◌≡◌, List, map, ap, sym, subst, ◌∙◌}
use Rattle.std.specs.List.{flat_map}
use Rattle.packet_flow.specs.declared.mark.Mark.{Mark}
use Rattle.packet_flow.specs.Marks.{mark_bytes, mark_len}
use Rattle.packet_flow.proofs.Spelled.{lens, lens_behind, some_left, text_behind, within_behind}
use Rattle.packet_flow.proofs.run.Run.behind.Goals as goal

pub invariant_of-result : goal.invariant_of-result
invariant_of-result c =
    let run = c.args.self in
    let m = c.in_ok-first.first in
    let ms = c.pop_front.new.self.items in
    let front = c.in_ok-first.ensures.items in
    let text = run.text ∙ ap (flat_map (mark_bytes run.big)) front in
    let long = subst (λ (l : List Mark). map mark_len l ≡ lens run.big l) front run.lens in
    record {
      within = within_behind run.big run.bytes.items run.from m ms run.within text long;
      some = some_left ms _ c.pop_front.new.self.ok.0 (sym c.is_empty.ensures ∙ c.if-is_empty.false);
      text = text_behind run.big run.bytes.items run.from m ms run.within text long;
      lens = lens_behind run.big run.bytes.items run.from m ms run.within text long;
    }
