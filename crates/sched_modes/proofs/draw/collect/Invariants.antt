use Rattle.std.proofs.Common.{◌≡◌, [], List, length, Some}
use Rattle.std.specs.List.{All}
use Rattle.std.specs.Vec.{vec_len}
use Rattle.crypto_model.specs.Process.{Transform}
use Rattle.sched_core.specs.Pending.{pending_of, IsRingSound, SlotDone}
use Rattle.sched_core.specs.Stopped.{EachAlike}
use Rattle.sched_modes.specs.Workers.{Serves, EachStalled, together}
use Rattle.sched_modes.proofs.draw.collect.Given as goal

abbrev pub invariant-loop-i : goal.invariant-loop-i
invariant-loop-i g l = record {
  sound : IsRingSound (Some l.ring) (together g.D.Driver l.workers l.devs.items);
  pending : pending_of (Some l.ring) (together g.D.Driver l.workers l.devs.items) ≡ pending_of (Some l.initial.ring) (together g.D.Driver l.workers l.initial.devs.items);
  done : (sessions : List (List Transform)) → EachAlike g.D.Driver.sessions sessions l.workers l.initial.devs.items → All (SlotDone sessions) l.initial.ring.slots → All (SlotDone sessions) l.ring.slots;
  ring : (l.ring.cap ≡ l.initial.ring.cap) × (l.ring.first ≡ l.initial.ring.first) × (length l.ring.slots ≡ length l.initial.ring.slots);
  scratch : l.scratch ≡ l.initial.scratch;
  serves : Serves g.D.Driver (λ k. []) l.workers l.initial.devs.items l.devs.items;
  stalled : EachStalled g.D.Driver l.i l.initial.devs.items l.devs.items;
  len : vec_len l.devs ≡ vec_len l.initial.devs;
}
