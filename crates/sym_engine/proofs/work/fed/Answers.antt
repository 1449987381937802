use Rattle.std.proofs.Common.{[]}
use Rattle.sym_engine.proofs.work.fed.Goals as goal

pub returns : goal.returns
returns c =
    let step = c.args.step.now in
    c.feed_range.ensures (step.hash, step.key) [] (c.start-code.ensures step.hash step.key c.key.ensures)
