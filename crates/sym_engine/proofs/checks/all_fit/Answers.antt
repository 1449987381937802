use Rattle.std.proofs.Common.{map, sym, ap, ◌∙◌}
use Rattle.std.proofs.lemmas.List.{take_all}
use Rattle.std.specs.List.{list_all}
use Rattle.crypto_model.specs.Process.{transform_fits}
use Rattle.sym_session.specs.Plain.{plain}
use Rattle.sym_engine.specs.Working.{input_for}
use Rattle.sym_engine.proofs.EachItem.{one_fails, one_more}
use Rattle.sym_engine.proofs.checks.all_fit.Goals as goal

pub loop-step-preserved : goal.loop-step-preserved
loop-step-preserved c = λ p e.
    one_more (transform_fits (input_for c.args.spec.now p) (map plain c.args.steps.now)) plain c.args.steps.now c.loop-step.step-index c.step-item.result c.loop-step-test.true c.step-item.is
    (sym (c.step_fits.ensures p e) ∙ c.if-not-step_fits.false) (c.loop-step.invariant p e)

pub returns-then-not-step_fits : goal.returns-then-not-step_fits
returns-then-not-step_fits c = λ p e.
    sym (one_fails (transform_fits (input_for c.args.spec.now p) (map plain c.args.steps.now)) plain c.args.steps.now c.loop-step.step-index c.step-item.result c.loop-step-test.true c.step-item.is
    (sym (c.step_fits.ensures p e) ∙ c.if-not-step_fits.true))

pub returns : goal.returns
returns c = λ p e.
    sym (ap (λ xs. list_all (transform_fits (input_for c.args.spec.now p) (map plain c.args.steps.now)) (map plain xs)) (sym (take_all c.loop-step.step-index c.args.steps.now c.loop-step-test.false)) ∙ c.loop-step.invariant p e)
