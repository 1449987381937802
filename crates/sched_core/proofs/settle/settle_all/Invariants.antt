use Rattle.std.proofs.Common.{◌≡◌, ◌+◌, ◌++◌, List, length, map, Some}
use Rattle.std.specs.List.{All}
use Rattle.crypto_model.specs.Process.{Transform}
use Rattle.crypto_op.specs.Op.{Entry, IsDone, entry_of}
use Rattle.sched_core.specs.Pending.{pending_of, IsRingSound, SlotDone}
use Rattle.sched_core.proofs.settle.settle_all.Given as goal

abbrev pub invariant-loop-i : goal.invariant-loop-i
invariant-loop-i g l = record {
  sound : (held : List (Entry _)) → IsRingSound (Some l.initial.ring) (held ++ map entry_of l.initial.burst.ops) → IsRingSound (Some l.ring) (held ++ map entry_of l.burst.ops);
  pending : (held : List (Entry _)) → IsRingSound (Some l.initial.ring) (held ++ map entry_of l.initial.burst.ops) → pending_of (Some l.ring) (held ++ map entry_of l.burst.ops) ≡ pending_of (Some l.initial.ring) (held ++ map entry_of l.initial.burst.ops);
  done : (sessions : List (List Transform)) → All (SlotDone sessions) l.initial.ring.slots → All (IsDone sessions) l.initial.burst.ops → All (SlotDone sessions) l.ring.slots × All (IsDone sessions) l.burst.ops;
  left : length l.burst.ops + l._i ≡ length l.initial.burst.ops;
  ring : (l.ring.cap ≡ l.initial.ring.cap) × (l.ring.first ≡ l.initial.ring.first) × (length l.ring.slots ≡ length l.initial.ring.slots);
  cap : l.burst.cap ≡ l.initial.burst.cap;
}
