use Rattle.std.proofs.Common.{◌≡◌, ◌+◌, ◌<◌, ◌≤◌, ◌++◌, [], List, length, map}
use Rattle.std.specs.List.{All}
use Rattle.std.specs.List.Sorted.{IsPermutation}
use Rattle.std.specs.Vec.{vec_len}
use Rattle.crypto_model.specs.Process.{Transform}
use Rattle.crypto_op.specs.Op.{IsDone, entry_of}
use Rattle.dev_core.specs.Burst.{added, with_ops}
use Rattle.sched_core.specs.Stopped.{EachAlike}
use Rattle.sched_modes.specs.Workers.{Serves, EachStalled, together}
use Rattle.sched_modes.proofs.draw.gather.Given as goal

abbrev pub invariant-loop-i : goal.invariant-loop-i
invariant-loop-i g l = record {
  within : l.n ≤ l.asked;
  kept : l.out ≡ with_ops (added l.initial.out l.out) l.initial.out;
  count : length l.out.ops ≡ length l.initial.out.ops + l.n;
  held : IsPermutation (map entry_of (added l.initial.out l.out) ++ together g.D.Driver l.workers l.devs.items) (together g.D.Driver l.workers l.initial.devs.items);
  done : (sessions : List (List Transform)) → EachAlike g.D.Driver.sessions sessions l.workers l.initial.devs.items → All (IsDone sessions) (added l.initial.out l.out);
  serves : Serves g.D.Driver (λ k. []) l.workers l.initial.devs.items l.devs.items;
  stalled : l.n < l.asked → EachStalled g.D.Driver l.i l.initial.devs.items l.devs.items;
  len : vec_len l.devs ≡ vec_len l.initial.devs;
}
