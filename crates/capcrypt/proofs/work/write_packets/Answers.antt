use Rattle.std.proofs.Common.{◌≡◌, [], ◌++◌, ap, refl}
use Rattle.capture_io.specs.Capture.{header_bytes}
use Rattle.capture_io.specs.Pieces.{AppendsPart}
use Rattle.dev_core.specs.declared.stats.Stats.{Stats}
use Rattle.capcrypt.specs.Start.{settings_of}
use Rattle.capcrypt.specs.Written.{raised}
use Rattle.capcrypt.proofs.Jobs.{decided_whole, flow_late, flowed, header_failed, not_set_up}
use Rattle.capcrypt.proofs.Limits.{few_operations}
use Rattle.capcrypt.proofs.work.write_packets.Goals as goal

pub returns-in_default-clause-wrote : goal.returns-in_default-clause-wrote
returns-in_default-clause-wrote g c s_told k_told rs rest reads =
    let old = g.K.Sink.written c.args.out.now in
    not_set_up (settings_of c.args.task.now) c.args.header.now rs rest c.without_packets.result old old old c.devices_of-devices.result c.without_packets.ensures refl

pub returns-in_default-clause-driven : goal.returns-in_default-clause-driven
returns-in_default-clause-driven g c s_told k_told rs rest reads = (
  [],
  refl,
  record {
    taken = [];
    front = (0, refl);
    whole = λ x. absurd (rw c.without_packets.ensures at x);
    count = refl;
    enqueued_is = ap (λ (x : Stats). x.enqueued) c.requires.stats;
    log_is = c.requires.log;
    flows = tt;
    few = few_operations c.args.task.now.plan c.args.header.now.big (g.S.Source.left c.args.capture.now) rs rest reads;
  },
)

pub returns-in-Err-clause-wrote : goal.returns-in-Err-clause-wrote
returns-in-Err-clause-wrote g c s_told k_told rs rest reads =
    let s = settings_of c.args.task.now in
    let h = c.args.header.now in
    let old = g.K.Sink.written c.args.out.now in
    let new = g.K.Sink.written c.write_header.new.sink in
    let part : AppendsPart old new (header_bytes (raised h)) = rw c.raise.ensures at (c.in-Err.ensures.fault k_told) in
    header_failed s h rs rest c.without_packets-in-Err.result old old new c.devices_of-devices.result c.without_packets-in-Err.ensures part

pub returns-in-Err-clause-driven : goal.returns-in-Err-clause-driven
returns-in-Err-clause-driven g c s_told k_told rs rest reads = (
  [],
  refl,
  record {
    taken = [];
    front = (0, refl);
    whole = λ x. absurd (rw c.without_packets-in-Err.ensures at x);
    count = refl;
    enqueued_is = ap (λ (x : Stats). x.enqueued) c.requires.stats;
    log_is = c.requires.log;
    flows = tt;
    few = few_operations c.args.task.now.plan c.args.header.now.big (g.S.Source.left c.args.capture.now) rs rest reads;
  },
)

pub returns-clause-wrote : goal.returns-clause-wrote
returns-clause-wrote g c s_told k_told rs rest reads =
    let s = settings_of c.args.task.now in
    let h = c.args.header.now in
    let old = g.K.Sink.written c.args.out.now in
    let base = g.K.Sink.written c.write_header.new.sink in
    let wrote : base ≡ old ++ header_bytes (raised h) = rw c.raise.ensures at (c.in_default-write_header.ensures.written k_told) in
    let all = c.transfer-flow.ensures.ends.2 s_told k_told rs rest reads in
    flowed s h rs rest _ old base (g.K.Sink.written c.transfer-flow.new.out) c.transfer-flow.result.end all.0 wrote c.ending_of_flow.ensures refl all.2

pub returns-clause-driven : goal.returns-clause-driven
returns-clause-driven g c s_told k_told rs rest reads =
    let ends = c.transfer-flow.ensures.ends in
    let all = ends.2 s_told k_told rs rest reads in
    let plan = c.args.task.now.plan in (
      ends.0,
      ends.1,
      record {
        taken = all.0;
        front = (all.2.k, all.2.front);
        whole = λ x. (all.2.whole (decided_whole plan rs rest all.2.n all.0 c.transfer-flow.result.end (rw c.ending_of_flow.ensures at x))).taken;
        count = all.3;
        enqueued_is = all.1.enqueued_is;
        log_is = all.1.log_is;
        flows = all.4;
        few = few_operations plan c.args.header.now.big (g.S.Source.left c.args.capture.now) rs rest reads;
      },
    )

pub returns-clause-late : goal.returns-clause-late
returns-clause-late g c = flow_late c.ending_of_flow.result c.transfer-flow.result.end c.ending_of_flow.ensures
