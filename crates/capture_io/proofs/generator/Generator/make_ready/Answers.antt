use Rattle.std.proofs.Common.{arith}
use Rattle.capture_io.proofs.Generating.{next_ready, nothing_left}
use Rattle.capture_io.proofs.generator.Generator.make_ready.Goals as goal
use Rattle.capture_io.proofs.generator.Generator.make_ready.Goals.{then-self-via-then-self, then-self-via-else-self+then-self-2}

pub returns-then-self-clause-ended : goal.returns-then-self-clause-ended
returns-then-self-clause-ended c read =
    let s = c.args.self.now in
    elim c.then-self.branch [
      | then-self-via-then-self w ↦ absurd (omega (arith, w.if-self.true, read))
      | then-self-via-else-self+then-self-2 w ↦ nothing_left s.at s.end s.count s.begun s.state s.ready read w.if-self-2.true
    ]

pub returns-clause-same : goal.returns-clause-same
returns-clause-same c =
    let s = c.args.self.now in
    next_ready s.at s.end s.count s.begun s.state _ _ s.ready c.spell_record-end.new.ready (omega (arith, c.if-self.false)) (omega (arith, c.if-self-2.false, s.few))
    c.spell_record-end.ensures.bytes c.spell_record-end.ensures.state
