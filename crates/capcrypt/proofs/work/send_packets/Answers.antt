use Rattle.std.proofs.Common.{List, ℕ, sym, subst}
use Rattle.capture_io.specs.Capture.{Holds}
use Rattle.capcrypt.specs.Start.{Begins, settings_of}
use Rattle.capcrypt.specs.Ran.{HasAppended}
use Rattle.capcrypt.proofs.Jobs.{flushed, flushed_decided, flushed_stalled}
use Rattle.capcrypt.proofs.work.send_packets.Goals as goal

pub returns-clause-wrote : goal.returns-clause-wrote
returns-clause-wrote g c s_told k_told rs rest reads =
    let s = settings_of c.args.task.now in
    let h = c.args.header.now in
    let o = c.write_packets-outcome.result in
    let old = g.K.Sink.written c.args.out.now in
    let new = g.K.Sink.written c.write_packets-outcome.new.out in
    let wrote = flushed s h rs rest o c.flushed.result old new _ (c.write_packets-outcome.ensures.wrote s_told k_told rs rest reads) c.flushed.ensures.outcome in
    subst (λ (l : List ℕ). HasAppended (Begins s) (Holds h rs rest) c.flushed.result old l) (sym (c.flushed.ensures.same k_told)) wrote

pub returns-clause-driven : goal.returns-clause-driven
returns-clause-driven g c s_told k_told rs rest reads =
    let d = c.write_packets-outcome.ensures.driven s_told k_told rs rest reads in (
      d.0,
      d.1,
      record {
        taken = d.2.taken;
        front = d.2.front;
        whole = λ x. d.2.whole (flushed_decided c.write_packets-outcome.result c.flushed.result _ c.flushed.ensures.outcome x);
        count = d.2.count;
        enqueued_is = d.2.enqueued_is;
        log_is = d.2.log_is;
        flows = d.2.flows;
        few = d.2.few;
      },
    )

pub returns-clause-stalled : goal.returns-clause-stalled
returns-clause-stalled g c ending = c.write_packets-outcome.ensures.stalled (flushed_stalled c.write_packets-outcome.result c.flushed.result _ c.flushed.ensures.outcome ending)
