use Rattle.std.proofs.Common.{◌++◌, ap, subst, ◌∙◌, refl}
use Rattle.capture_io.specs.Pieces.{AppendsPart}
use Rattle.packet_flow.specs.Marks.{mark_bytes}
use Rattle.packet_flow.proofs.Bags.{on_err_from}
use Rattle.packet_flow.proofs.Rooms.{ready_first, run_first, run_told}
use Rattle.packet_flow.proofs.slots.write_first.Goals as goal

pub returns-in_err-write_record-in-Ready-clause-fault : goal.returns-in_err-write_record-in-Ready-clause-fault
returns-in_err-write_record-in-Ready-clause-fault g c =
    on_err_from c.from_residual.result _ (ready_first c.args.slot.now c.in-Ready.number c.in-Ready.written c.in-Ready.is, c.in_err-write_record-in-Ready.ensures.fault)

pub returns-in_ok-write_record-in-Ready-clause-wrote : goal.returns-in_ok-write_record-in-Ready-clause-wrote
returns-in_ok-write_record-in-Ready-clause-wrote g c =
    (ready_first c.args.slot.now c.in-Ready.number c.in-Ready.written c.in-Ready.is, refl, c.in_ok-write_record-in-Ready.ensures.written)

-- of a run the order is the header's, which what is required says
pub returns-in_err-write_all-in-Waits-clause-fault : goal.returns-in_err-write_all-in-Waits-clause-fault
returns-in_err-write_all-in-Waits-clause-fault g c =
    let t = c.first-fate.ensures in
    let big = run_told c.args.slot.now c.in-Waits.run' t.0 t.1 c.args.header.now.big c.in-Waits.is t.2 c.requires.order in
    on_err_from c.from_residual-in_err-write_all-in-Waits.result _ (
      run_first c.args.slot.now c.in-Waits.run' t.0 t.1 c.in-Waits.is t.2,
      subst (λ (l : _). g.K.Sink.tells → AppendsPart (g.K.Sink.written c.args.out.now) (g.K.Sink.written c.write_all.new.sink) l) (t.3 ∙ ap (λ (x : _). mark_bytes x t.0) big)
          c.in_err-write_all-in-Waits.ensures.fault,
    )

pub returns-in_ok-write_all-in-Waits-clause-wrote : goal.returns-in_ok-write_all-in-Waits-clause-wrote
returns-in_ok-write_all-in-Waits-clause-wrote g c =
    let t = c.first-fate.ensures in
    let big = run_told c.args.slot.now c.in-Waits.run' t.0 t.1 c.args.header.now.big c.in-Waits.is t.2 c.requires.order in (
      run_first c.args.slot.now c.in-Waits.run' t.0 t.1 c.in-Waits.is t.2,
      t.4,
      λ told. c.in_ok-write_all-in-Waits.ensures.written told ∙ ap (λ (l : _). g.K.Sink.written c.args.out.now ++ l) (t.3 ∙ ap (λ (x : _). mark_bytes x t.0) big),
    )
