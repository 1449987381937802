use Rattle.std.proofs.Common.{◌≡◌, ◌+◌, List, ◌++◌, length}
use Rattle.std.specs.Prelude.{map}
use Rattle.std.specs.List.{All}
use Rattle.crypto_model.specs.Process.{Transform}
use Rattle.crypto_op.specs.Op.{IsDone, entry_of}
use Rattle.sched_multicore.specs.Carry.{Parcel, finished_sum}
use Rattle.sched_multicore.specs.Laden.{Laden, SameCarrier}
use Rattle.sched_multicore.proofs.carrier.Carrier.finish_all.Given as goal

abbrev pub invariant-loop-op : goal.invariant-loop-op
invariant-loop-op g l = record {
  laden : (sessions : List (List Transform)) (held : List Parcel) → Laden sessions l.initial.self (map entry_of l.initial.self.burst.ops ++ held) → Laden sessions l.self (map entry_of l.self.burst.ops ++ held);
  done : (sessions : List (List Transform)) → All (IsDone sessions) l.initial.self.burst.ops → All (IsDone sessions) l.self.burst.ops;
  same : SameCarrier l.initial.self l.self;
  sum : finished_sum l.self.hands.items + length l.self.burst.ops ≡ finished_sum l.initial.self.hands.items + length l.initial.self.burst.ops;
}

abbrev pub decreases-loop-op : goal.decreases-loop-op
decreases-loop-op g l = length l.self.burst.ops
