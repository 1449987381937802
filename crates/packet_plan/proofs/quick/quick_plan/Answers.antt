use Rattle.std.proofs.Common.{◌≡◌, rules, subst, sym}
use Rattle.session_file.specs.Sound.{IsSound}
use Rattle.session_file.specs.declared.plan.Choice.TheVariants.{Use}
use Rattle.session_file.specs.declared.plan.Plan.{Plan}
use Rattle.packet_plan.specs.Quick.{quick_plan}
use Rattle.packet_plan.proofs.UsableSessions.{quick_sound}
use Rattle.packet_plan.proofs.quick.quick_plan.Goals as goal

pub returns-clause-sound : goal.returns-clause-sound
returns-clause-sound c =
    let made : Plan = record { sessions = c.new-5.result; rules = c.new-7.result; otherwise = Use (record { 0 = 0 }) 0 } in
    let is : made ≡ quick_plan c.args.key.now c.args.salt = search rules in
    subst IsSound (sym is) (quick_sound c.args.key.now c.args.salt (search rules) (search rules))
