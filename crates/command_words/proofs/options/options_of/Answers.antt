use Rattle.command_words.specs.Options.{scheduled_app}
use Rattle.command_words.proofs.Readings.{some_text, values_from}
use Rattle.command_words.proofs.options.options_of.Goals as goal

pub returns : goal.returns
returns c =
    values_from (scheduled_app c.args.name.now c.args.has_burst) _ c.in_ok-matches.matches _ _ _ c.in_ok-matches.ensures.taken c.in_ok-matches.ensures.rows
    (some_text _ _ _ c.in-Some-Some.is-0 c.get_str.ensures)
    (some_text _ _ _ c.in-Some-Some.is-1 c.get_str-2.ensures) c.get_str-3.ensures
