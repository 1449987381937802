use Rattle.std.proofs.Common.{rules, ◌∙◌}
use Rattle.command_words.proofs.Numerals.{numeral_read}
use Rattle.command_words.proofs.numeral.number_in.Goals as goal

pub returns-then-is_numeral : goal.returns-then-is_numeral
returns-then-is_numeral c =
    c.ok.ensures.value ∙ numeral_read c.args.most c.args.text.now c.parse.result c.requires (search rules) c.parse.ensures.value.0
