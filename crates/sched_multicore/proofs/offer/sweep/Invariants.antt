use Rattle.std.proofs.Common.{◌≡◌, ℕ, ◌+◌, ◌≤◌, ◌++◌, length, map}
use Rattle.std.specs.List.{All}
use Rattle.crypto_model.specs.Counts.{capped}
use Rattle.crypto_op.specs.Op.{IsFresh, entry_of}
use Rattle.sched_multicore.specs.Carry.{Counts, finished_sum}
use Rattle.sched_multicore.specs.Sweep.{Swept}
use Rattle.sched_multicore.specs.Laden.{Laden, SameCarrier}
use Rattle.sched_multicore.proofs.offer.sweep.Given as goal

abbrev pub invariant-loop-code : goal.invariant-loop-code
invariant-loop-code g l = record {
  laden : Laden (g.D.Driver.sessions l.dev) l.carrier (map entry_of l.carrier.burst.ops ++ g.D.Driver.held l.dev);
  fresh : All IsFresh l.carrier.burst.ops;
  same : SameCarrier l.fn.carrier l.carrier;
  swept : Swept l.fn.carrier.slots l.code l.fn.carrier.hands.items l.carrier.hands.items l.taken;
  few : l.taken ≤ l.code;
  counts : Counts (g.D.Device.limit l.fn.dev) (length (g.D.Driver.held l.fn.dev)) (g.D.Driver.stalls l.fn.dev) l.taken l.given_back
      (length l.carrier.burst.ops) (length (g.D.Driver.held l.dev)) (g.D.Driver.stalls l.dev);
  sum : finished_sum l.carrier.hands.items ≡ finished_sum l.fn.carrier.hands.items;
  enqueued : (n : ℕ) → (g.D.Driver.stats l.fn.dev).enqueued ≡ capped (n + length (g.D.Driver.held l.fn.dev))
      → (g.D.Driver.stats l.dev).enqueued ≡ capped (n + length (g.D.Driver.held l.dev));
  sessions : g.D.Driver.sessions l.dev ≡ g.D.Driver.sessions l.fn.dev;
  follows : g.D.Driver.follows l.fn.dev l.dev;
}
