-- How many workers each mode has.
use Rattle.std.specs.Prelude.{ℕ}
use Rattle.sched_core.specs.declared.mode.Mode.{Mode}
use Rattle.sched_core.specs.declared.mode.Mode.TheVariants.{RoundRobin, PacketSize, FailOver, MultiCore}

abbrev pub most_workers : Mode → ℕ
most_workers RoundRobin = 8
most_workers PacketSize = 2
most_workers FailOver = 2
most_workers MultiCore = 8

abbrev pub least_workers : Mode → ℕ
least_workers RoundRobin = 1
least_workers PacketSize = 2
least_workers FailOver = 2
least_workers MultiCore = 1
