use Rattle.std.proofs.Common.{◌≡◌, take, count_by}
use Rattle.std.specs.Prelude.{not}
use Rattle.multicore_bench.proofs.tally.Tally.lost.Given as goal

abbrev pub invariant-loop-seen : goal.invariant-loop-seen
invariant-loop-seen l = l.lost ≡ count_by not (take l.seen-index l.self.seen.items)
