use Rattle.std.proofs.Common.{◌++◌, []}
use Rattle.capcrypt.specs.Report.{first_line, device_lines, digest_line}
use Rattle.capcrypt.proofs.Fronts.{on_ok_map, on_err_map, on_err_front, first_failed, second_failed, both_written}
use Rattle.capcrypt.proofs.report.write_counted.Goals as goal

pub returns-in_err-write_counts-clause-fault : goal.returns-in_err-write_counts-clause-fault
returns-in_err-write_counts-clause-fault g c told =
    let counted = first_line c.args.counts.now ++ device_lines 0 c.args.devices.now in
    on_err_front c.from_residual.result _ _ _ (first_failed counted (digest_line c.args.digest) (g.E.Sink.written c.args.report.now) (g.E.Sink.written c.write_counts.new.report) [] (c.in_err-write_counts.ensures.fault told))

pub returns-clause-written : goal.returns-clause-written
returns-clause-written g c told =
    let counted = first_line c.args.counts.now ++ device_lines 0 c.args.devices.now in
    on_ok_map c.write_digest.result
    (both_written counted (digest_line c.args.digest) (g.E.Sink.written c.args.report.now) (g.E.Sink.written c.write_counts.new.report) (g.E.Sink.written c.write_digest.new.report)
    (c.in_ok-write_counts.ensures.written told)) (c.write_digest.ensures.written told)

pub returns-clause-fault : goal.returns-clause-fault
returns-clause-fault g c told =
    let counted = first_line c.args.counts.now ++ device_lines 0 c.args.devices.now in
    on_err_map c.write_digest.result
    (second_failed counted (digest_line c.args.digest) (g.E.Sink.written c.args.report.now) (g.E.Sink.written c.write_counts.new.report) (g.E.Sink.written c.write_digest.new.report)
    (c.in_ok-write_counts.ensures.written told)) (c.write_digest.ensures.fault told)
