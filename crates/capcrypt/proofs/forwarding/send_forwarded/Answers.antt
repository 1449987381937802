use Rattle.std.proofs.Common.{List, ℕ, sym, subst}
use Rattle.capture_io.specs.Capture.{Holds}
use Rattle.capcrypt.specs.Start.{Begins, settings_of}
use Rattle.capcrypt.specs.Ran.{HasAppended}
use Rattle.capcrypt.proofs.Jobs.{flushed, flushed_decided, flushed_stalled}
use Rattle.capcrypt.proofs.forwarding.send_forwarded.Goals as goal

pub returns-clause-wrote : goal.returns-clause-wrote
returns-clause-wrote g c s_told k_told rs rest reads =
    let s = settings_of c.args.task.now in
    let h = c.args.header.now in
    let o = c.write_forwarded-dev.result.0 in
    let old = g.K.Sink.written c.args.out.now in
    let new = g.K.Sink.written c.write_forwarded-dev.new.out in
    let wrote = flushed s h rs rest o c.flushed.result old new _ (c.write_forwarded-dev.ensures.wrote s_told k_told rs rest reads) c.flushed.ensures.outcome in
    subst (λ (l : List ℕ). HasAppended (Begins s) (Holds h rs rest) c.flushed.result old l) (sym (c.flushed.ensures.same k_told)) wrote

pub returns-clause-accepted : goal.returns-clause-accepted
returns-clause-accepted g c s_told k_told rs rest reads =
    let d = c.write_forwarded-dev.ensures.accepted s_told k_told rs rest reads in
    record { most = d.most; whole = λ x. d.whole (flushed_decided c.write_forwarded-dev.result.0 c.flushed.result _ c.flushed.ensures.outcome x); few = d.few }

pub returns-clause-stalled : goal.returns-clause-stalled
returns-clause-stalled g c ending = c.write_forwarded-dev.ensures.stalled (flushed_stalled c.write_forwarded-dev.result.0 c.flushed.result _ c.flushed.ensures.outcome ending)
