use Rattle.std.proofs.Common.{List, subst, sym}
use Rattle.std.specs.List.{All}
use Rattle.session_file.specs.declared.plan.Named.{Named}
use Rattle.packet_plan.specs.Ready.{IsUsable}
use Rattle.packet_plan.proofs.UsableSessions.{all_usable}
use Rattle.packet_plan.proofs.ready.ReadyPlan.table.Goals as goal

pub table_of-requires-clause-usable : goal.table_of-requires-clause-usable
table_of-requires-clause-usable c =
    subst (λ (ss : List Named). All IsUsable ss) (sym c.items.ensures) (all_usable c.self.inside.plan c.self.invariant.sound)
