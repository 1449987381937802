-- One field after another.
use Rattle.std.proofs.Common.{◌≡◌, ◌∙◌, ◌<◌, ◌≤◌, ◌+◌, ◌==◌, ℕ, zero, suc, List, [], ◌∷◌, length, take, drop, sym, ap, refl, arith, Option, Some, None, Result, Ok, Err, ne_eqb, subst}
use Rattle.std.specs.Borrow.{Bor}
use Rattle.sched_core.specs.declared.text.BadText.{BadText}
use Rattle.std.specs.Prelude.{IfSome, true, unwrap_or, slice_index, option_and_then, MatchOption, MatchResult}
use Rattle.std.specs.List.{slice_split}
use Rattle.sched_core.specs.Stopped.{is_threshold}
use Rattle.sched_core.specs.declared.field.Seen.{Seen}
use Rattle.sched_core.specs.declared.field.Field.{Field}
use Rattle.sched_core.specs.declared.text.SchedText.{SchedText}
use Rattle.sched_core.specs.Text.{field_of, field_then, fields_of, finished, nothing_seen, read_fields, sched_of, with_field}

pub cut : (xs : List ℕ) (k : ℕ) → k < length xs → ((j : ℕ) → j < k → slice_index xs j ≡ 44 → ⊥) → slice_index xs k ≡ 44
    → fields_of xs ≡ take k xs ∷ fields_of (drop (suc k) xs)
unfolding fields_of
cut [] k lt before found = absurd (omega arith)
cut (x ∷ xs) zero lt before found = let e : x ≡ 44 = found in rw e refl
cut (x ∷ xs) (suc k) lt before found =
    let other : x ≡ 44 → ⊥ = before 0 (omega arith) in
    let ih : slice_split (λ b. b == 44) xs ≡ take k xs ∷ slice_split (λ b. b == 44) (drop (suc k) xs) = cut xs k (omega arith) (λ j lt. before (suc j) (omega arith)) found in
    rw (ne_eqb x 44 other, ih) refl

pub last : (xs : List ℕ) → ((j : ℕ) → j < length xs → slice_index xs j ≡ 44 → ⊥) → fields_of xs ≡ xs ∷ []
unfolding fields_of
last [] before = refl
last (x ∷ xs) before =
    let other : x ≡ 44 → ⊥ = before 0 (omega arith) in
    let ih : slice_split (λ b. b == 44) xs ≡ xs ∷ [] = last xs (λ j lt. before (suc j) (omega arith)) in
    rw (ne_eqb x 44 other, ih) refl

pub begun : (text : List ℕ) → read_fields (length text) 0 nothing_seen (fields_of text) ≡ sched_of text
unfolding sched_of
begun text = refl

-- the first field of those left
pub at_first : (len at : ℕ) (s : Seen) (first : List ℕ) (rest all : List (List ℕ)) (read : Option Seen) → all ≡ first ∷ rest
    → option_and_then (with_field s) (field_of first) ≡ read
    → read_fields len at s all ≡ field_then read at (λ after. read_fields len (at + (length first + 1)) after rest)
unfolding read_fields
at_first len at s first rest all read e is =
    ap (read_fields len at s) e ∙ ap (λ (r : Option Seen). field_then r at (λ after. read_fields len (at + (length first + 1)) after rest)) is

pub ended : (len at : ℕ) (s : Seen) → read_fields len at s [] ≡ finished s len
unfolding read_fields
ended len at s = refl

pub some_rest : (o : Option (Bor (List ℕ))) (all : List (List ℕ)) (first : List ℕ) → MatchOption o (all ≡ first ∷ []) (λ more. all ≡ first ∷ fields_of more.now)
    → (rest : List (List ℕ)) × (all ≡ first ∷ rest)
some_rest None all first e = ([], e)
some_rest (Some more) all first e = (fields_of more.now, e)

pub at_none : {X : Type 0} (o : Option X) (P : Type 0) (Q : X → Type 0) → o ≡ None → MatchOption o P Q → P
at_none None P Q e h = h
at_none (Some x) P Q e h = cc

pub at_some : {X : Type 0} (o : Option X) (x : X) (P : Type 0) (Q : X → Type 0) → o ≡ Some x → MatchOption o P Q → Q x
at_some {X = X} o x P Q e h = subst (λ (r : Option X). MatchOption r P Q) e h

-- what finish says, at the end of the fields
pub whole : (r : Result SchedText BadText) (a b : Result SchedText ℕ) → a ≡ b → MatchResult r (λ x. a ≡ Ok x) (λ e. a ≡ Err e.at) → MatchResult r (λ x. b ≡ Ok x) (λ e. b ≡ Err e.at)
whole (Ok x) a b e h = sym e ∙ h
whole (Err x) a b e h = sym e ∙ h

-- a threshold, or the usual one
pub legal_or_usual : (o : Option ℕ) → IfSome o (λ n. is_threshold n ≡ true) → is_threshold (unwrap_or o 128) ≡ true
unfolding lib.Count.ones
legal_or_usual None h = refl
legal_or_usual (Some n) h = h

pub some_is : {X : Type 0} (P : X → Type 0) (o : Option X) (x : X) → o ≡ Some x → IfSome o P → P x
some_is {X = X} P o x e h = subst (λ (r : Option X). IfSome r P) e h
