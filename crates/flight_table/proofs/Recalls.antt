-- What the exits of a recall rest on.
use Rattle.std.proofs.Common.{◌≡◌, ◌≢◌, ℕ, Bool, true, false, true≢false, List, [], ◌∷◌, refl, sym, ap, ◌∙◌, subst, arith, Option, Some, None}
use Rattle.flight_table.specs.declared.word.Phase.TheVariants.{Ready}
use Rattle.flight_table.specs.declared.word.Word.{Word}
use Rattle.flight_table.specs.declared.rule.Sent.{Sent}
use Rattle.flight_table.specs.Word.{word, code, packed, unpacked}
use Rattle.flight_table.specs.Rule.{Flying, Slot}
use Rattle.flight_table.specs.Call.{ShownAs, IsPacked}
use Rattle.flight_table.proofs.Puts.{some_same}

operation_or : Flying → List (ℕ × Slot) → Flying
operation_or d [] = d
operation_or d ((k, Some x) ∷ r) = x
operation_or d ((k, None) ∷ r) = d

-- one slot has one operation
pub one_operation : (k : ℕ) (a b : Flying) (r s : List (ℕ × Slot)) → ((k, Some a) ∷ r) ≡ ((k, Some b) ∷ s) → a ≡ b
unfolding operation_or
one_operation k a b r s e = ap (operation_or a) e

-- a slot that is READY has been given, with that number and that worker
pub was_given : (o : Option Sent) (n : Word) → n.phase ≡ Ready → ShownAs o n → (s : Sent) × (o ≡ Some s) × (n ≡ word Ready s.number s.worker)
was_given None n ready shown = absurd (let x = ap code (sym ready ∙ ap (λ z. z.phase) shown) in omega (arith, x))
was_given (Some s) n ready shown = (s, refl, shown.1 ∙ ap (λ p. word p s.number s.worker) ready)

-- while nothing else is given there, no other word than the first is READY
pub not_ready : (o : Option Sent) (m n : ℕ) → (unpacked m).phase ≡ Ready → ShownAs o (unpacked m) → IsPacked m → ShownAs o (unpacked n) → IsPacked n → n ≢ m → (unpacked n).phase ≢ Ready
not_ready o m n ready first packed₁ second packed₂ other again =
    let a = was_given o (unpacked m) ready first in
    let b = was_given o (unpacked n) again second in
    let same : a.0 ≡ b.0 = some_same a.0 b.0 (sym a.1 ∙ b.1) in
    other (packed₂ ∙ ap packed (b.2 ∙ ap (λ s. word Ready s.number s.worker) (sym same) ∙ sym a.2) ∙ sym packed₁)

pub ready_word : (o : Option Sent) (s : Sent) (n : Word) → o ≡ Some s → ShownAs o n → n.phase ≡ Ready → n ≡ word Ready s.number s.worker
ready_word o s n given shown ready = (subst (λ (z : Option Sent). ShownAs z n) given shown).1 ∙ ap (λ p. word p s.number s.worker) ready

pub isnt : {P : Type 0} (b : Bool) → (P → b ≡ true) → b ≡ false → P → ⊥
isnt b test fails p = true≢false (sym (test p) ∙ fails)
