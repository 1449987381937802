use Rattle.std.proofs.Common.{List, subst, sym}
use Rattle.std.specs.List.{All}
use Rattle.session_file.specs.declared.plan.Named.{Named}
use Rattle.packet_plan.specs.Ready.{IsUsable}
use Rattle.packet_plan.proofs.UsableSessions.{all_usable}
use Rattle.packet_plan.proofs.ready.ReadyPlan.new.Goals as goal

pub all_of-requires : goal.all_of-requires
all_of-requires c = subst (λ (ss : List Named). All IsUsable ss) (sym c.items.ensures) (all_usable c.args.plan c.requires.sound)
