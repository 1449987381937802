-- What a sweep over the slots of some hands saw.
use Rattle.std.specs.Prelude.{◌≡◌, ◌≢◌, ◌⊎◌, ℕ, zero, suc, ◌/◌, ◌%◌, List, ◌∷◌, ◌++◌, length, Some, slice_get}
use Rattle.flight_table.specs.Call.{Desk, ReadyFor}
use Rattle.flight_table.specs.declared.word.Word.{Word}

-- the same hand, which may have found more words, taken and given back
pub record IsLater (d e : Desk) : Type 0 where
  pub table : e.table ≡ d.table
  pub slots : e.slots ≡ d.slots
  pub worker : e.view.worker ≡ d.view.worker
  pub about : e.view.about ≡ d.view.about
  pub looks : (more : List (ℕ × Word)) × (e.view.looks ≡ d.view.looks ++ more)

pub record SameHands (ds es : List Desk) : Type 0 where
  pub len : length es ≡ length ds
  pub each : (h : ℕ) (d e : Desk) → slice_get ds h ≡ Some d → slice_get es h ≡ Some e → IsLater d e

-- between d and e the hand loaded a word at the slot k that wasn't ready for it; or one that was, and its exchange found another
pub record PassedBy (k : ℕ) (d e : Desk) : Type 0 where
  pub first : List (ℕ × Word)
  pub word : Word
  pub last : List (ℕ × Word)
  pub looks : e.view.looks ≡ d.view.looks ++ (first ++ (k, word) ∷ last)
  pub missed : (ReadyFor d.view.worker word → ⊥) ⊎ ((found : Word) × (rest : List (ℕ × Word)) × (last ≡ (k, found) ∷ rest) × (found ≢ word))

-- the slot with this code was passed by
abbrev pub PassedAt : ℕ → ℕ → List Desk → List Desk → Type 0
PassedAt slots c ds es = (d e : Desk) → slice_get ds (c / slots) ≡ Some d → slice_get es (c / slots) ≡ Some e → PassedBy (c % slots) d e

-- between d and e the hand loaded a word at the slot k that was ready for it
pub record FoundBy (k : ℕ) (d e : Desk) : Type 0 where
  pub first : List (ℕ × Word)
  pub word : Word
  pub last : List (ℕ × Word)
  pub looks : e.view.looks ≡ d.view.looks ++ (first ++ (k, word) ∷ last)
  pub ready : ReadyFor d.view.worker word

-- the slot with this code was found ready
abbrev pub FoundAt : ℕ → ℕ → List Desk → List Desk → Type 0
FoundAt slots c ds es = (d e : Desk) → slice_get ds (c / slots) ≡ Some d → slice_get es (c / slots) ≡ Some e → FoundBy (c % slots) d e

-- of the slots with the first n codes, so many were found ready, and each other was passed by
abbrev pub Swept : (slots n : ℕ) (ds es : List Desk) (taken : ℕ) → Type 0
Swept slots zero ds es taken = taken ≡ 0
Swept slots (suc n) ds es taken = (PassedAt slots n ds es × Swept slots n ds es taken)
    ⊎ ((fewer : ℕ) × (taken ≡ suc fewer) × FoundAt slots n ds es × Swept slots n ds es fewer)
