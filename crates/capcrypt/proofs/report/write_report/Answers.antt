use Rattle.std.proofs.Common.{◌++◌, List, [], ℕ, ◌∙◌, ap, subst}
use Rattle.capcrypt.specs.Ran.{AppendsFront}
use Rattle.capcrypt.specs.Report.{listed, last_line, report_of}
use Rattle.capcrypt.proofs.Fronts.{on_err_front, front_of_part, on_ok_from, first_failed, second_failed, both_written, front_whole}
use Rattle.capcrypt.proofs.report.write_report.Goals as goal

pub returns-in_err-write_listed-clause-fault : goal.returns-in_err-write_listed-clause-fault
returns-in_err-write_listed-clause-fault g c told =
    let o = c.args.outcome.now in
    on_err_front c.from_residual.result _ _ _ (first_failed (listed o c.args.devices.now c.args.digest) (last_line o.ending) (g.E.Sink.written c.args.report.now) (g.E.Sink.written c.write_listed.new.report) [] (c.in_err-write_listed.ensures.fault told))

pub returns-in_err-write_all-clause-fault : goal.returns-in_err-write_all-clause-fault
returns-in_err-write_all-clause-fault g c told =
    let o = c.args.outcome.now in
    on_err_front c.from_residual-in_err-write_all.result _ _ _ (second_failed (listed o c.args.devices.now c.args.digest) (last_line o.ending) (g.E.Sink.written c.args.report.now) (g.E.Sink.written c.write_listed.new.report) (g.E.Sink.written c.write_all.new.sink) (c.in_ok-write_listed.ensures.written told) (subst (λ (l : List ℕ). AppendsFront (g.E.Sink.written c.write_listed.new.report) (g.E.Sink.written c.write_all.new.sink) l) (c.text.ensures ∙ c.line_of_ending.ensures) (front_of_part _ _ _ (c.in_err-write_all.ensures.fault told))))

pub returns-clause-written : goal.returns-clause-written
returns-clause-written g c told =
    let o = c.args.outcome.now in
    on_ok_from c.flush.result (c.flush.ensures.same told ∙ both_written (listed o c.args.devices.now c.args.digest) (last_line o.ending) (g.E.Sink.written c.args.report.now) (g.E.Sink.written c.write_listed.new.report) (g.E.Sink.written c.write_all.new.sink) (c.in_ok-write_listed.ensures.written told) (c.in_ok-write_all.ensures.written told ∙ ap (λ (l : List ℕ). g.E.Sink.written c.write_listed.new.report ++ l) (c.text.ensures ∙ c.line_of_ending.ensures)))

pub returns-clause-fault : goal.returns-clause-fault
returns-clause-fault g c told =
    let o = c.args.outcome.now in
    on_err_front c.flush.result _ _ _ (front_whole (report_of o c.args.devices.now c.args.digest) _ _ (c.flush.ensures.same told ∙ both_written (listed o c.args.devices.now c.args.digest) (last_line o.ending) (g.E.Sink.written c.args.report.now) (g.E.Sink.written c.write_listed.new.report) (g.E.Sink.written c.write_all.new.sink) (c.in_ok-write_listed.ensures.written told) (c.in_ok-write_all.ensures.written told ∙ ap (λ (l : List ℕ). g.E.Sink.written c.write_listed.new.report ++ l) (c.text.ensures ∙ c.line_of_ending.ensures))))
