use Rattle.std.proofs.Common.{List, ℕ, ap, subst, sym, ◌∙◌}
use Rattle.capcrypt.specs.Report.{digest_line}
use Rattle.capcrypt.specs.Ran.{AppendsFront}
use Rattle.capcrypt.proofs.Fronts.{on_err_map, front_of_part}
use Rattle.capcrypt.proofs.report.write_digest.Goals as goal

pub returns-in-Some-clause-fault : goal.returns-in-Some-clause-fault
returns-in-Some-clause-fault g c told =
    on_err_map c.write_all.result (λ part. subst (λ (l : List ℕ). AppendsFront (g.E.Sink.written c.args.report.now) (g.E.Sink.written c.write_all.new.sink) l)
    (c.text.ensures ∙ c.line_of_digest.ensures ∙ ap digest_line (sym c.in-Some.is)) (front_of_part _ _ _ part)) (c.write_all.ensures.fault told)
