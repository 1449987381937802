use Rattle.std.proofs.Common.{◌≡◌, ℕ, ◌<◌, arith, add-one, length}
use Rattle.std.specs.Prelude.{slice_index}
use Rattle.sched_core.proofs.Fields.{cut, last}
use Rattle.sched_core.proofs.text.first_field.Goals as goal

pub returns-then-at-text-clause-fields : goal.returns-then-at-text-clause-fields
returns-then-at-text-clause-fields c =
    rw (c.behind.ensures, add-one) (cut c.args.text.now c.comma_at-at.result c.if-at-text.true c.comma_at-at.ensures.before (c.comma_at-at.ensures.found c.if-at-text.true))

pub returns-else-at-text-clause-fields : goal.returns-else-at-text-clause-fields
returns-else-at-text-clause-fields c = last c.args.text.now (λ j lt. c.comma_at-at.ensures.before j (omega arith))
