use Rattle.std.proofs.Common.{[], subst, sym}
use Rattle.crypto_op.specs.Op.{IsDone}
use Rattle.flight_table.proofs.Answered.{is_refused}
use Rattle.flight_table.proofs.tests.answer.Goals as goal

pub returns-clause-done : goal.returns-clause-done
returns-clause-done c = subst (IsDone []) (sym c.set_status.ensures) (is_refused c.args.op.now c.requires)
