use Rattle.std.proofs.Common.{◌++◌, List, [], ℕ, ◌∙◌, ap, subst}
use Rattle.capcrypt.specs.Ran.{AppendsFront}
use Rattle.capcrypt.specs.Report.{first_line, device_lines}
use Rattle.capcrypt.proofs.Fronts.{on_ok_map, on_err_map, on_err_front, front_of_part, first_failed, second_failed, both_written}
use Rattle.capcrypt.proofs.report.write_counts.Goals as goal

pub returns-in_err-write_all-clause-fault : goal.returns-in_err-write_all-clause-fault
returns-in_err-write_all-clause-fault g c told =
    on_err_front c.from_residual.result _ _ _ (first_failed (first_line c.args.counts.now) (device_lines 0 c.args.devices.now) (g.E.Sink.written c.args.report.now) (g.E.Sink.written c.write_all.new.sink) [] (subst (λ (l : List ℕ). AppendsFront (g.E.Sink.written c.args.report.now) (g.E.Sink.written c.write_all.new.sink) l) (c.text.ensures ∙ c.line_of_counts.ensures) (front_of_part _ _ _ (c.in_err-write_all.ensures.fault told))))

pub returns-clause-written : goal.returns-clause-written
returns-clause-written g c told =
    on_ok_map c.write_devices.result
    (both_written (first_line c.args.counts.now) (device_lines 0 c.args.devices.now) (g.E.Sink.written c.args.report.now) (g.E.Sink.written c.write_all.new.sink) (g.E.Sink.written c.write_devices.new.report)
    (c.in_ok-write_all.ensures.written told ∙ ap (λ (l : List ℕ). g.E.Sink.written c.args.report.now ++ l) (c.text.ensures ∙ c.line_of_counts.ensures)))
    (c.write_devices.ensures.written told)

pub returns-clause-fault : goal.returns-clause-fault
returns-clause-fault g c told =
    on_err_map c.write_devices.result
    (second_failed (first_line c.args.counts.now) (device_lines 0 c.args.devices.now) (g.E.Sink.written c.args.report.now) (g.E.Sink.written c.write_all.new.sink) (g.E.Sink.written c.write_devices.new.report)
    (c.in_ok-write_all.ensures.written told ∙ ap (λ (l : List ℕ). g.E.Sink.written c.args.report.now ++ l) (c.text.ensures ∙ c.line_of_counts.ensures)))
    (c.write_devices.ensures.fault told)
