use Rattle.std.proofs.Common.{◌++◌, List, ap, sym, ◌∙◌, arith}
use Rattle.packet_flow.specs.declared.slots.Slot.TheVariants as slot
use Rattle.packet_flow.specs.Laid.{laid_out}
use Rattle.packet_flow.specs.Runs.{seats_behind}
use Rattle.packet_flow.specs.Seats.{Seat}
use Rattle.packet_flow.proofs.Rooms.{front_slot, laid-cons, laid_behind, none_behind}
use Rattle.packet_flow.proofs.slots.take_first.Goals as goal

pub returns-in_err-pop_front : goal.returns-in_err-pop_front
returns-in_err-pop_front c =
    let old = c.args.slots.now in
    none_behind old.items c.pop_front.new.self.items (omega (arith, old.ok.0, c.in_err-pop_front.ensures.len, c.in_err-pop_front.ensures.cases.0)) c.in_err-pop_front.ensures.items

pub returns-in-Open : goal.returns-in-Open
returns-in-Open c =
    let old = c.args.slots.now.items in
    let rest = c.pop_front.new.self.items in
    sym (laid_behind old rest _ (front_slot old rest c.in_ok-pop_front.field-0 _ c.in_ok-pop_front.ensures.items c.in-Open.is))

pub returns-in-Ready : goal.returns-in-Ready
returns-in-Ready c =
    let old = c.args.slots.now.items in
    let rest = c.pop_front.new.self.items in
    sym (laid_behind old rest _ (front_slot old rest c.in_ok-pop_front.field-0 _ c.in_ok-pop_front.ensures.items c.in-Ready.is))

pub returns-in-Some : goal.returns-in-Some
returns-in-Some c =
    let old = c.args.slots.now.items in
    let rest = c.pop_front.new.self.items in
    let run = c.in-Waits.run' in
    let one = laid_behind old rest (slot.Waits run) (front_slot old rest c.in_ok-pop_front.field-0 _ c.in_ok-pop_front.ensures.items c.in-Waits.is) in
    ap laid_out c.push_front_reserved.ensures.items ∙ laid-cons _ rest
    ∙ ap (λ (l : List Seat). l ++ laid_out rest) (sym (c.behind.ensures ∙ ap seats_behind c.in-Some.is)) ∙ sym one

pub returns : goal.returns
returns c =
    let old = c.args.slots.now.items in
    let rest = c.pop_front.new.self.items in
    let run = c.in-Waits.run' in
    let one = laid_behind old rest (slot.Waits run) (front_slot old rest c.in_ok-pop_front.field-0 _ c.in_ok-pop_front.ensures.items c.in-Waits.is) in
    sym (one ∙ ap (λ (l : List Seat). l ++ laid_out rest) (c.behind.ensures ∙ ap seats_behind c.in-None.is))
