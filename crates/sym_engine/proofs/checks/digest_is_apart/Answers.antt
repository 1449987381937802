use Rattle.std.proofs.Common.{map, sym, ap, ◌∙◌}
use Rattle.std.proofs.lemmas.List.{take_all}
use Rattle.std.specs.List.{list_all}
use Rattle.crypto_model.specs.Process.{apart, digest_apart}
use Rattle.sym_session.specs.Plain.{plain}
use Rattle.sym_engine.specs.Working.{input_for}
use Rattle.sym_engine.proofs.EachItem.{one_fails, one_more}
use Rattle.sym_engine.proofs.checks.digest_is_apart.Goals as goal

pub loop-step-preserved : goal.loop-step-preserved
loop-step-preserved c = λ p.
    one_more (digest_apart (input_for c.args.spec.now p) c.args.at c.args.n) plain c.args.steps.now c.loop-step.step-index c.step-item.result c.loop-step-test.true c.step-item.is
    (sym (c.is_apart.ensures ∙ ap (λ r. apart r.off r.len c.args.at c.args.n) (c.range_for.ensures p)) ∙ c.if-not-is_apart.false) (c.loop-step.invariant p)

pub returns-then-not-is_apart : goal.returns-then-not-is_apart
returns-then-not-is_apart c = λ p.
    sym (one_fails (digest_apart (input_for c.args.spec.now p) c.args.at c.args.n) plain c.args.steps.now c.loop-step.step-index c.step-item.result c.loop-step-test.true c.step-item.is
    (sym (c.is_apart.ensures ∙ ap (λ r. apart r.off r.len c.args.at c.args.n) (c.range_for.ensures p)) ∙ c.if-not-is_apart.true))

pub returns : goal.returns
returns c = λ p.
    sym (ap (λ xs. list_all (digest_apart (input_for c.args.spec.now p) c.args.at c.args.n) (map plain xs)) (sym (take_all c.loop-step.step-index c.args.steps.now c.loop-step-test.false)) ∙ c.loop-step.invariant p)
