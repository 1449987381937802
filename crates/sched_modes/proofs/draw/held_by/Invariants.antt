use Rattle.std.proofs.Common.{◌≡◌, length}
use Rattle.crypto_model.specs.Counts.{capped}
use Rattle.sched_modes.specs.Workers.{together}
use Rattle.sched_modes.proofs.draw.held_by.Given as goal

abbrev pub invariant-loop-i : goal.invariant-loop-i
invariant-loop-i g l = l.sum ≡ capped (length (together g.D.Driver l.i l.devs.items))
