use Rattle.std.proofs.Common.{ap, ◌∙◌}
use Rattle.clap.specs.Words.{is_simple, is_simple_and_free}
use Rattle.command_words.specs.Options.{scheduled_app}
use Rattle.command_words.proofs.Readings.{no_values}
use Rattle.command_words.proofs.Taken.{no_kinds, scheduled_is_plain, scheduled_is_simple, some_kinds}
use Rattle.command_words.proofs.options.matches_in.Goals as goal

pub returns-in-Ok-try_get_matches_from-clause-taken : goal.returns-in-Ok-try_get_matches_from-clause-taken
returns-in-Ok-try_get_matches_from-clause-taken c =
    let simple = ap is_simple_and_free c.in-Ok.ensures.app ∙ scheduled_is_simple c.args.name.now c.args.has_burst in
    rw (← c.in-Ok.ensures.app) (no_kinds _ (c.in-Ok-try_get_matches_from.ensures.kinds simple))

pub returns-in-Ok-try_get_matches_from-clause-rows : goal.returns-in-Ok-try_get_matches_from-clause-rows
returns-in-Ok-try_get_matches_from-clause-rows c =
    let plain = ap is_simple c.in-Ok.ensures.app ∙ scheduled_is_plain c.args.name.now c.args.has_burst in
    rw (← c.in-Ok.ensures.app) ((c.in-Ok-try_get_matches_from.ensures.matches plain).0)

pub returns-clause-refused : goal.returns-clause-refused
returns-clause-refused c =
    let simple = ap is_simple_and_free c.in-Ok.ensures.app ∙ scheduled_is_simple c.args.name.now c.args.has_burst in
    no_values (scheduled_app c.args.name.now c.args.has_burst) _ (rw (← c.in-Ok.ensures.app)
    (some_kinds _ c.in-Err.error (c.in-Err.ensures.kinds simple) (λ memory. c.in_default-kind.not-OutOfMemory (c.kind.ensures ∙ memory))))
