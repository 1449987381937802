use Rattle.std.proofs.Common.{◌≡◌, ◌++◌, ◌∷◌, [], List, drop, length, ap, sym, subst, ◌∙◌, arith, refl, length-append}
use Rattle.std.specs.Prelude.{Ok}
use Rattle.packet_flow.specs.Laid.{laid_out, seats_of}
use Rattle.packet_flow.specs.Seats.{AllIn, Seat}
use Rattle.packet_flow.specs.Writing.{Appends, CutsNext, HasWritten}
use Rattle.packet_flow.proofs.Answers.{cut_here, none_written, written_more}
use Rattle.packet_flow.proofs.Bags.{on_err_from}
use Rattle.packet_flow.proofs.InSlots.{front_split}
use Rattle.packet_flow.proofs.Rooms.{in_order_behind, in_order_front, laid-cons, leads, told_some, waits_first, waits_none}
use Rattle.packet_flow.proofs.slots.Slots.write_ready.Goals as goal

pub loop-slot-init : goal.loop-slot-init
loop-slot-init g c = record {
  written = λ plan ps entries b.
      subst (λ (l : List Seat). HasWritten plan ps entries l c.args.counts.now c.args.counts.now (Appends plan c.args.header.now.big g.K.Sink.tells (g.K.Sink.written c.args.out.now) (g.K.Sink.written c.args.out.now))) (sym c.self.view_is)
      (none_written c.args.header.now.big g.K.Sink.tells plan ps entries (g.K.Sink.written c.args.out.now) c.args.counts.now c.args.self.now b);
  few = let f = c.requires.few in (f.0, f.1, omega (arith, f.2, ap length c.self.view_is));
  order = subst (AllIn c.args.header.now.big) (sym c.self.view_is) c.requires.order;
  later = omega arith;
  steady = λ steady. refl;
}

pub write_first-requires : goal.write_first-requires
write_first-requires g c =
    let ss = c.loop-slot.self-inside.slots.items in
    let s = c.in-Some.slot.now in
    let front = front_split ss s c.in-Some.ensures.item.0 c.in-Some.ensures.lookup in
    let big = c.args.header.now.big in
    record { order = in_order_front big (seats_of s) (laid_out (drop 1 ss)) (subst (AllIn big) (ap laid_out front ∙ laid-cons s (drop 1 ss)) c.loop-slot.invariant.order) }

pub returns-in_err-fate-clause-cut : goal.returns-in_err-fate-clause-cut
returns-in_err-fate-clause-cut g c plan ps entries b =
    let ss = c.loop-slot.self-inside.slots.items in
    let s = c.in-Some.slot.now in
    let front = front_split ss s c.in-Some.ensures.item.0 c.in-Some.ensures.lookup in
    let big = c.args.header.now.big in
    let f = c.in_err-fate.ensures.fault.0 in
    let lead = leads s ss (drop 1 ss) front f in
    let first = g.K.Sink.written c.args.out.now in
    let wrote = g.K.Sink.written c.loop-slot.out in
    let new = g.K.Sink.written c.write_first.new.out in
    let before = subst (λ (l : List Seat). HasWritten plan ps entries l c.args.counts.now c.loop-slot.counts (Appends plan big g.K.Sink.tells first wrote)) lead (c.loop-slot.invariant.written plan ps entries b) in
    on_err_from c.from_residual.result _
    (subst (λ (l : List Seat). HasWritten plan ps entries l c.args.counts.now c.loop-slot.counts (CutsNext plan big g.K.Sink.tells first new)) (sym lead)
    (cut_here big g.K.Sink.tells plan ps entries first c.args.counts.now f.number f.answer f.order (f.rest ++ laid_out (drop 1 ss)) c.loop-slot.counts c.loop-slot.counts wrote new before c.in_err-fate.ensures.fault.1))

pub returns-in_default-2-clause-waits : goal.returns-in_default-2-clause-waits
returns-in_default-2-clause-waits g c =
    let ss = c.loop-slot.self-inside.slots.items in
    let s = c.in-Some.slot.now in
    let front = front_split ss s c.in-Some.ensures.item.0 c.in-Some.ensures.lookup in
    waits_first ss (drop 1 ss) s front (c.in_ok-fate.ensures.none (ap Ok c.in_default-2.is)).0

pub loop-slot-smaller : goal.loop-slot-smaller
loop-slot-smaller g c =
    let ss = c.loop-slot.self-inside.slots.items in
    let s = c.in-Some.slot.now in
    let front = front_split ss s c.in-Some.ensures.item.0 c.in-Some.ensures.lookup in
    let wrote = told_some c.in_ok-fate.field-0 c.in-Some-2.fate _ c.in-Some-2.is c.in_ok-fate.ensures.wrote in
    let lead = leads s ss (drop 1 ss) front wrote.0 in
    omega (arith, ap length (c.drop_first.ensures ∙ ap (drop 1) lead), ap length lead)

pub loop-slot-preserved : goal.loop-slot-preserved
loop-slot-preserved g c =
    let ss = c.loop-slot.self-inside.slots.items in
    let s = c.in-Some.slot.now in
    let front = front_split ss s c.in-Some.ensures.item.0 c.in-Some.ensures.lookup in
    let big = c.args.header.now.big in
    let told = told_some c.in_ok-fate.field-0 c.in-Some-2.fate _ c.in-Some-2.is c.in_ok-fate.ensures.wrote in
    let f = told.0 in
    let lead = leads s ss (drop 1 ss) front f in
    let behind = f.rest ++ laid_out (drop 1 ss) in
    let now : laid_out c.drop_first.new.slots.items ≡ behind = c.drop_first.ensures ∙ ap (drop 1) lead in
    let first = g.K.Sink.written c.args.out.now in
    let wrote = g.K.Sink.written c.loop-slot.out in
    let new = g.K.Sink.written c.write_first.new.out in
    let inv = c.loop-slot.invariant in
    record {
      written = λ plan ps entries b.
          subst (λ (l : List Seat). HasWritten plan ps entries l c.args.counts.now c.add.new.self (Appends plan big g.K.Sink.tells first new)) (sym now)
          (written_more big g.K.Sink.tells plan ps entries first c.args.counts.now f.number f.answer f.order behind c.loop-slot.counts c.add.new.self wrote new
          (subst (λ (l : List Seat). HasWritten plan ps entries l c.args.counts.now c.loop-slot.counts (Appends plan big g.K.Sink.tells first wrote)) lead (inv.written plan ps entries b))
          (λ answers a is same. c.add.ensures answers a is (same ∙ sym told.1)) told.2);
      few = (
        inv.few.0 ++ f.answer ∷ [],
        c.add.ensures inv.few.0 f.answer inv.few.1 (sym told.1),
        omega (arith, inv.few.2, ap length lead, ap length now, length-append inv.few.0 (f.answer ∷ [])),
      );
      order = subst (AllIn big) (sym c.drop_first.ensures) (in_order_behind big (laid_out ss) inv.order);
      later = omega (arith, inv.later, c.write_first.ensures.later);
      steady = λ steady. c.in_ok-fate.ensures.steady steady ∙ inv.steady steady;
    }

pub returns-clause-waits : goal.returns-clause-waits
returns-clause-waits g c =
    let ss = c.loop-slot.self-inside.slots in
    waits_none ss.items c.front.result c.in_default.is (λ some. c.front.ensures.variant.1 (omega (arith, some, ss.ok.0)))
