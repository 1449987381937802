-- What is known of a device over another, whose calls move at most so many operations.
use Rattle.std.specs.Prelude.{◌≡◌, ℕ, ◌<◌, ◌≤◌, ◌++◌, min, List, length, map, take, Option, option_map}
use Rattle.std.specs.Option.{ForSome}
use Rattle.crypto_model.specs.Counts.{Rose}
use Rattle.dev_core.specs.declared.driver.Driver.{Ghosts}
use Rattle.dev_core.specs.declared.driver.LogEntry.{LogEntry}
use Rattle.dev_core.specs.declared.over.Over.{Over}
use Rattle.dev_core.specs.Limits.{least, cuts_after}
use Rattle.dev_core.specs.Stats.{after_enqueue, after_dequeue}

-- An enqueue call that was offered these operations under a limit, and took n. It stalled by its own cause exactly where the
-- limit is below what the device below admits.
pub record EnqueuesUpto {C D : Type 0} (m : Ghosts D C) (limit : Option ℕ) (ops : List LogEntry) (n : ℕ) (old new : Over D) : Type 0 where
  pub exact : ForSome (m.admits old.inner (map (λ e. e.data_len) ops)) (λ a. new.cuts ≡ cuts_after limit a old.cuts)
  pub limited : ForSome limit (λ l. n ≤ l)
  pub inner_cause : ForSome (m.admits old.inner (map (λ e. e.data_len) ops)) (λ a. n < least limit a → Rose (m.stalls old.inner) (m.stalls new.inner))
  pub inner_stalls : m.stalls old.inner ≤ m.stalls new.inner
  pub inner_stats : m.stats new.inner ≡ after_enqueue (least limit (length ops)) n (m.stats old.inner)
  pub inner_log : m.log new.inner ≡ option_map (λ l. l ++ take n ops) (m.log old.inner)

-- A dequeue call that was asked for so many under a limit, and gave n. It stalled by its own cause exactly where the limit is
-- below what could come.
pub record DequeuesUpto {C D : Type 0} (m : Ghosts D C) (limit : Option ℕ) (asked n : ℕ) (old new : Over D) : Type 0 where
  pub exact : new.cuts ≡ cuts_after limit (min asked (length (m.held old.inner))) old.cuts
  pub limited : ForSome limit (λ l. n ≤ l)
  pub inner_cause : n < least limit (min asked (length (m.held old.inner))) → Rose (m.stalls old.inner) (m.stalls new.inner)
  pub inner_stalls : m.stalls old.inner ≤ m.stalls new.inner
  pub inner_stats : m.stats new.inner ≡ after_dequeue (least limit asked) n (m.stats old.inner)
  pub inner_log : m.log new.inner ≡ m.log old.inner
