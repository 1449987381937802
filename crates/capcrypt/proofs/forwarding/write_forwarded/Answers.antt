use Rattle.std.proofs.Common.{◌≡◌, ◌++◌, ◌∙◌, length, ap, refl, arith}
use Rattle.capture_io.specs.Capture.{header_bytes}
use Rattle.capture_io.specs.Pieces.{AppendsPart}
use Rattle.dev_core.specs.declared.stats.Stats.{Stats}
use Rattle.packet_flow.specs.Entries.{entries_from}
use Rattle.capcrypt.specs.Start.{settings_of}
use Rattle.capcrypt.specs.Written.{raised}
use Rattle.capcrypt.proofs.Alone.{short_front}
use Rattle.capcrypt.proofs.Jobs.{decided_whole, flow_late, flowed, header_failed, not_set_up}
use Rattle.capcrypt.proofs.Limits.{few_operations}
use Rattle.capcrypt.proofs.forwarding.write_forwarded.Goals as goal

pub returns-in_default-clause-wrote : goal.returns-in_default-clause-wrote
returns-in_default-clause-wrote g c s_told k_told rs rest reads =
    let old = g.K.Sink.written c.args.out.now in
    not_set_up (settings_of c.args.task.now) c.args.header.now rs rest c.without_packets.result old old old c.devices_of-devices.result c.without_packets.ensures refl

pub returns-in_default-clause-accepted : goal.returns-in_default-clause-accepted
returns-in_default-clause-accepted g c s_told k_told rs rest reads = record {
  most = omega (arith, ap (λ (x : Stats). x.enqueued) c.requires.stats);
  whole = λ x. absurd (rw c.without_packets.ensures at x);
  few = few_operations c.args.task.now.plan c.args.header.now.big (g.S.Source.left c.args.capture.now) rs rest reads;
}

pub returns-in-Err-clause-wrote : goal.returns-in-Err-clause-wrote
returns-in-Err-clause-wrote g c s_told k_told rs rest reads =
    let s = settings_of c.args.task.now in
    let h = c.args.header.now in
    let old = g.K.Sink.written c.args.out.now in
    let new = g.K.Sink.written c.write_header.new.sink in
    let part : AppendsPart old new (header_bytes (raised h)) = rw c.raise.ensures at (c.in-Err.ensures.fault k_told) in
    header_failed s h rs rest c.without_packets-in-Err.result old old new c.devices_of-devices.result c.without_packets-in-Err.ensures part

pub returns-in-Err-clause-accepted : goal.returns-in-Err-clause-accepted
returns-in-Err-clause-accepted g c s_told k_told rs rest reads = record {
  most = omega (arith, ap (λ (x : Stats). x.enqueued) c.requires.stats);
  whole = λ x. absurd (rw c.without_packets-in-Err.ensures at x);
  few = few_operations c.args.task.now.plan c.args.header.now.big (g.S.Source.left c.args.capture.now) rs rest reads;
}

pub returns-clause-wrote : goal.returns-clause-wrote
returns-clause-wrote g c s_told k_told rs rest reads =
    let s = settings_of c.args.task.now in
    let h = c.args.header.now in
    let old = g.K.Sink.written c.args.out.now in
    let base = g.K.Sink.written c.write_header.new.sink in
    let wrote : base ≡ old ++ header_bytes (raised h) = rw c.raise.ensures at (c.in_default-write_header.ensures.written k_told) in
    let all = c.forward-dev.ensures.ends s_told k_told rs rest reads in
    flowed s h rs rest _ old base (g.K.Sink.written c.forward-dev.new.out) c.forward-dev.result.flow.end all.0 wrote c.ending_of_flow.ensures refl all.1

pub returns-clause-accepted : goal.returns-clause-accepted
returns-clause-accepted g c s_told k_told rs rest reads =
    let all = c.forward-dev.ensures.ends s_told k_told rs rest reads in
    let plan = c.args.task.now.plan in
    record {
      most = omega (arith, all.2, short_front (entries_from plan 0 rs) all.0 (all.1.k, all.1.front));
      whole = λ x.
          let whole = decided_whole plan rs rest all.1.n all.0 c.forward-dev.result.flow.end (rw c.ending_of_flow.ensures at x) in
          all.3 whole ∙ ap length (all.1.whole whole).taken;
      few = few_operations plan c.args.header.now.big (g.S.Source.left c.args.capture.now) rs rest reads;
    }

pub returns-clause-late : goal.returns-clause-late
returns-clause-late g c = flow_late c.ending_of_flow.result c.forward-dev.result.flow.end c.ending_of_flow.ensures
