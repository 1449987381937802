use Rattle.std.proofs.Common.{◌≡◌}
use Rattle.multicore_bench.proofs.owner.Owner.take_back.Given as goal

abbrev pub invariant-loop-i : goal.invariant-loop-i
invariant-loop-i l = (l.self.spare ≡ l.initial.self.spare) × (l.self.qp ≡ l.initial.self.qp)
