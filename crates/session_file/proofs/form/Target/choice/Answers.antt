use Rattle.std.proofs.Common.{◌∙◌, refl, sym}
use Rattle.session_file.proofs.Choices.{chosen}
use Rattle.session_file.proofs.form.Target.choice.Goals as goal

pub returns-then-not-takes_skip : goal.returns-then-not-takes_skip
returns-then-not-takes_skip c =
    let found = chosen c.args.sessions.now c.in-Use.name.now c.in-Use.skip.now c.in-Some.place c.number-skip.result c.index-sessions-place.result c.items.result.now c.takes_skip.result
    (sym c.in-Some.is ∙ c.place_of.ensures) c.index-sessions-place.is c.items.ensures c.number-skip.ensures.value c.takes_skip.ensures in
    rw c.in-Use.is (rw found.0 refl, found.1 ∙ c.if-not-takes_skip.true)

pub returns-else-not-takes_skip : goal.returns-else-not-takes_skip
returns-else-not-takes_skip c =
    let found = chosen c.args.sessions.now c.in-Use.name.now c.in-Use.skip.now c.in-Some.place c.number-skip.result c.index-sessions-place.result c.items.result.now c.takes_skip.result
    (sym c.in-Some.is ∙ c.place_of.ensures) c.index-sessions-place.is c.items.ensures c.number-skip.ensures.value c.takes_skip.ensures in
    rw c.in-Use.is (found.0, found.1 ∙ c.if-not-takes_skip.false)
