-- A burst by packet size, as far as it was dealt out.
use Rattle.std.specs.Prelude.{◌≡◌, ℕ, ◌-◌, ◌<◌, ◌≤◌, List, ◌++◌, Some, slice_get, slice_index_or, IsPermutation}
use Rattle.crypto_model.specs.Counts.{Rose}
use Rattle.crypto_op.specs.declared.op.Op.{Op}
use Rattle.crypto_op.specs.Op.{data_len_of}
use Rattle.crypto_op.specs.Burst.{Burst}
use Rattle.dev_core.specs.Burst.{front, front_log, lens, rest_of}
use Rattle.dev_core.specs.declared.driver.Driver.{Ghosts}
use Rattle.sched_core.specs.Pending.{InOrder}
use Rattle.sched_modes.specs.Crew.{Grew, of_size, share, size_worker, told}
use Rattle.sched_modes.specs.Pool.{WentOn, pending_in}
use Rattle.sched_modes.specs.Workers.{places}
use Rattle.sched_modes.specs.declared.pool.Pool.{Pool}

-- a worker that has told room now stalled
abbrev pub HasStalled : {C D : Type 0} → Ghosts D C → ℕ → List D → List D → Type 0
HasStalled {D = D} m k old new = (r : ℕ) (d : D) → m.room (slice_index_or new k d) ≡ Some r → 0 < r
    → Rose (m.stalls (slice_index_or old k d)) (m.stalls (slice_index_or new k d))

-- so has the worker of a burst's operation n
abbrev pub HasStalledFor : {C D : Type 0} {m : Ghosts D C} → ℕ → Burst (Op C) → Pool C D m → Pool C D m → Type 0
HasStalledFor {C = C} {m = m} n burst old new = (op : Op C) → slice_get burst.ops n ≡ Some op
    → HasStalled m (size_worker old.threshold (data_len_of op.spec)) old.devs.items new.devs.items

-- The first n operations of the burst are inside, each at the worker of its size, and the rest is left.
pub record DealtBySize {C D : Type 0} {m : Ghosts D C} (old : Pool C D m) (burst : Burst (Op C)) (n : ℕ) (new : Pool C D m) (left : Burst (Op C)) : Type 0 where
  pub rest : left ≡ rest_of n burst
  pub pending : IsPermutation (pending_in old ++ front n burst) (pending_in new)
  pub in_order : InOrder old.ring → pending_in new ≡ pending_in old ++ front n burst
  pub ring : Grew n (places old.ring) (places new.ring)
  pub went : WentOn (λ k. of_size old.threshold k (told (places old.ring) (front_log n burst))) old new
  pub rooms : (k r : ℕ) (d : D) → m.room (slice_index_or old.devs.items k d) ≡ Some r
      → (share old.threshold k (lens n burst) ≤ r) × (m.room (slice_index_or new.devs.items k d) ≡ Some (r - share old.threshold k (lens n burst)))
  pub stats : new.stats ≡ old.stats
