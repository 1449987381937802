-- When a run is right.
use Rattle.std.specs.Prelude.{ℕ, ◌+◌, ◌==◌, ◌&&◌, ◌||◌, Bool, not, count_by}
use Rattle.crypto_model.specs.Counts.{capped}
use Rattle.multicore_bench.specs.declared.crew.Ran.{Ran}
use Rattle.multicore_bench.specs.declared.tally.Tally.{Tally}

-- each operation came back once, with its answer
abbrev pub came_once : Tally → Bool
came_once t = (count_by not t.seen.items == 0) && (t.doubled == 0) && (t.wrong == 0)

-- and in its turn, where the queue pair keeps the order; owner and devices did each once, and no worker left early
abbrev pub is_right : Ran → Bool
is_right r = came_once r.tally && ((r.tally.out_of_order == 0) || not r.flow.ordering) && (capped (r.helped + r.done) == r.flow.operations) && (r.early == 0)
