-- The turns of a flow.
use Rattle.std.specs.Prelude.{◌≡◌, ◌<◌, ℕ, List, [], ◌∷◌, length, map, Option, Some}
use Rattle.crypto_op.specs.declared.spec.Card.{Card}
use Rattle.crypto_op.specs.declared.op.Op.{Op}
use Rattle.dev_core.specs.declared.driver.LogEntry.{LogEntry}
use Rattle.dev_core.specs.Burst.{log_entry}
use Rattle.dev_core.specs.Calls.{Call, Offers}
use Rattle.dev_core.specs.Offers.{Flows, IsDrained, rest_of_burst, taken_by}

-- A driver in this state says what it admits, and where that is nothing it holds something.
abbrev pub NeverIdle : {D E : Type 0} → (D → List ℕ → Option ℕ) → (D → List E) → D → Type 0
NeverIdle admits held d = (lens : List ℕ) → 0 < length lens → (a : ℕ) × (admits d lens ≡ Some a) × (a ≡ 0 → 0 < length (held d))

-- between two turns: the driver was drained, and this burst is left
pub record IsAt (past : List Call) (ops : List (Op Card)) : Type 0 where
  pub drained : IsDrained past
  pub rest : map log_entry ops ≡ rest_of_burst past

-- the calls with the offer of this burst, of which n were taken; an empty one isn't offered
abbrev pub with_offer : List LogEntry → (n : ℕ) → List Call → List Call
with_offer [] n past = past
with_offer (e ∷ es) n past = Offers (e ∷ es) n ∷ past

-- the driver was asked, and nothing else
pub record OnlyAsked (past now : List Call) : Type 0 where
  pub taken : taken_by now ≡ taken_by past
  pub rest : rest_of_burst now ≡ rest_of_burst past
  pub flows : (size : ℕ) (ops : List LogEntry) → Flows size ops past → Flows size ops now
