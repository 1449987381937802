use Rattle.std.proofs.Common.{◌∙◌, arith, add-one, length, sym}
use Rattle.std.proofs.lemmas.List.{drop_all}
use Rattle.session_file.proofs.Cuts.{lines_cut, lines_last}
use Rattle.session_file.proofs.text.split_line.Goals as goal

pub returns-in-Some-clause-lines : goal.returns-in-Some-clause-lines
returns-in-Some-clause-lines c =
    rw (c.without_carriage_return.ensures, c.behind.ensures, add-one)
    (lines_cut c.args.text.now c.in-Some.at (sym c.in-Some.is ∙ c.line_feed_at.ensures))

pub returns-in-None-clause-lines : goal.returns-in-None-clause-lines
returns-in-None-clause-lines c =
    rw (c.without_carriage_return-in-None.ensures, c.behind-in-None.ensures, drop_all (length c.args.text.now) c.args.text.now (omega arith))
    (lines_last c.args.text.now c.requires (sym c.in-None.is ∙ c.line_feed_at.ensures))
