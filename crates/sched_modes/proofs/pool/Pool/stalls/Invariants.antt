use Rattle.std.proofs.Common.{◌≡◌, map, take}
use Rattle.std.specs.List.{sum_by}
use Rattle.crypto_model.specs.Counts.{capped}
use Rattle.sched_modes.specs.Crew.{Account, account}
use Rattle.sched_modes.proofs.pool.Pool.stalls.Given as goal

abbrev pub invariant-loop-i : goal.invariant-loop-i
invariant-loop-i g l = l.sum ≡ capped (sum_by (λ (a : Account). a.stalls) (map (account g.D.Driver) (take l.i l.self.devs.items)))
