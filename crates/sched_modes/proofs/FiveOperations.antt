-- What each mode assigns of five operations to two workers, worked out by hand.
use Rattle.std.proofs.Common.{◌≡◌, ℕ, List, [], ◌∷◌, map, refl}
use Rattle.crypto_model.specs.declared.plain.SessId.{SessId}
use Rattle.dev_core.specs.declared.driver.LogEntry.{LogEntry}
use Rattle.sched_core.specs.declared.mode.Mode.{Mode}
use Rattle.sched_core.specs.declared.mode.Mode.TheVariants.{RoundRobin, PacketSize, FailOver}
use Rattle.sched_modes.specs.Assign.{assign, in_turn, pieces}

module _ (session : SessId) where
  abbrev op : (len number : ℕ) → LogEntry
  op len number = record { session = session; data_len = len; pos = number }

  -- of which operations 1 and 3 reach the threshold of 128
  abbrev numbers : Mode → (depth size k : ℕ) → List ℕ
  numbers mode depth size k = map (λ e. e.pos) (assign mode 128 depth 2 size (op 10 0 ∷ op 200 1 ∷ op 10 2 ∷ op 128 3 ∷ op 127 4 ∷ []) k)

  -- In bursts of three with room for two the calls take operations 0 and 1, then 2, then 3 and 4.
  turns_of_0 : numbers RoundRobin 2 3 0 ≡ 0 ∷ 1 ∷ 3 ∷ 4 ∷ []
  unfolding pieces in_turn
  turns_of_0 = refl

  turns_of_1 : numbers RoundRobin 2 3 1 ≡ 2 ∷ []
  unfolding pieces in_turn
  turns_of_1 = refl

  long_ones : numbers PacketSize 2 3 0 ≡ 1 ∷ 3 ∷ []
  long_ones = refl

  short_ones : numbers PacketSize 2 3 1 ≡ 0 ∷ 2 ∷ 4 ∷ []
  short_ones = refl

  -- Here a call takes a whole burst: worker 0 its first two, and worker 1 the third.
  first_ones : numbers FailOver 2 3 0 ≡ 0 ∷ 1 ∷ 3 ∷ 4 ∷ []
  unfolding pieces
  first_ones = refl

  others : numbers FailOver 2 3 1 ≡ 2 ∷ []
  unfolding pieces
  others = refl

  -- In one burst of five with room for one a call takes two, and the last takes what is left.
  one_each : numbers FailOver 1 5 0 ≡ 0 ∷ 2 ∷ 4 ∷ []
  unfolding pieces
  one_each = refl
