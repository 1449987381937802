-- Numbers that rise.
use Rattle.std.proofs.Common.{◌≡◌, ◌<◌, ◌≤◌, ◌+◌, inl, inr, ℕ, zero, suc, List, [], ◌∷◌, ◌++◌, length, refl, ap, sym, subst, ◌∙◌, arith}
use Rattle.std.specs.List.{slice_get}
use Rattle.std.specs.Prelude.{Some}
use Rattle.std.proofs.lemmas.List.{map-append}
use Rattle.std.proofs.lemmas.Bool.{cases_lt}
use Rattle.capture_io.specs.Capture.{Rec}
use Rattle.packet_flow.specs.Numbered.{Numbered, RisesFrom, numbered, numbers_of}

pub rises_lower : (n k : ℕ) (ms : List ℕ) → n ≤ k → RisesFrom k ms → RisesFrom n ms
rises_lower n k [] low rises = tt
rises_lower n k (m ∷ ms) low rises = (omega (arith, low, rises.0), rises.1)

-- the last of them
pub rises_behind : (n : ℕ) (ms more : List ℕ) → RisesFrom n (ms ++ more) → RisesFrom n more
rises_behind n [] more rises = rises
rises_behind n (m ∷ ms) more rises = rises_lower n (m + 1) more (omega (arith, rises.0)) (rises_behind (m + 1) ms more rises.1)

pub rises_above : (n i m : ℕ) (ms : List ℕ) → RisesFrom n ms → slice_get ms i ≡ Some m → n ≤ m
rises_above n i m [] rises is = cc
rises_above n zero m (x ∷ ms) rises is = let same : x ≡ m = cc in omega (arith, rises.0, same)
rises_above n (suc i) m (x ∷ ms) rises is = omega (arith, rises.0, rises_above (x + 1) i m ms rises.1 is)

-- one that stands before another is below it
pub rises_before : (n i j a b : ℕ) (ms : List ℕ) → RisesFrom n ms → slice_get ms i ≡ Some a → slice_get ms j ≡ Some b → i < j → a < b
rises_before n i j a b [] rises is at before = cc
rises_before n zero zero a b (x ∷ ms) rises is at before = absurd (omega (arith, before))
rises_before n zero (suc j) a b (x ∷ ms) rises is at before = let same : x ≡ a = cc in omega (arith, same, rises_above (x + 1) j b ms rises.1 at)
rises_before n (suc i) zero a b (x ∷ ms) rises is at before = absurd (omega (arith, before))
rises_before n (suc i) (suc j) a b (x ∷ ms) rises is at before = rises_before (x + 1) i j a b ms rises.1 is at (omega (arith, before))

-- each stands once
pub one_place : (n i j m : ℕ) (ms : List ℕ) → RisesFrom n ms → slice_get ms i ≡ Some m → slice_get ms j ≡ Some m → i ≡ j
one_place n i j m ms rises is at =
    elim (cases_lt i j) [
      | inl before ↦ absurd (omega (arith, rises_before n i j m m ms rises is at before))
      | inr behind ↦ elim (cases_lt j i) [
        | inl after ↦ absurd (omega (arith, rises_before n j i m m ms rises at is after))
        | inr same ↦ omega (arith, behind, same)
      ]
    ]

-- they rise by one at the least
pub rises_by : (n i : ℕ) (a b : ℕ) (ms : List ℕ) → RisesFrom n ms → slice_get ms 0 ≡ Some a → slice_get ms i ≡ Some b → a ≤ b
rises_by n zero a b ms rises is at = let same : a ≡ b = (let both : Some a ≡ Some b = sym is ∙ at in cc) in omega (arith, same)
rises_by n (suc i) a b ms rises is at = omega (arith, rises_before n 0 (suc i) a b ms rises is at (omega arith))

-- ---- records that are numbered from n on

pub numbered_rises : (n : ℕ) (rs : List Rec) → RisesFrom n (numbers_of (numbered n rs))
unfolding numbered
numbered_rises n [] = tt
numbered_rises n (r ∷ rs) = (omega arith, numbered_rises (n + 1) rs)

pub numbered-append : (n : ℕ) (rs more : List Rec) → numbered n (rs ++ more) ≡ numbered n rs ++ numbered (n + length rs) more
unfolding numbered
numbered-append n [] more = let at : n ≡ n + 0 = omega arith in ap (λ (k : ℕ). numbered k more) at
numbered-append n (r ∷ rs) more =
    let at : (n + 1) + length rs ≡ n + length (r ∷ rs) = omega arith in
    ap (λ (l : List Numbered). record { number = n; rec = r } ∷ l) (numbered-append (n + 1) rs more ∙ ap (λ (k : ℕ). numbered (n + 1) rs ++ numbered k more) at)

pub numbered-one : (n : ℕ) (r : Rec) → numbered n (r ∷ []) ≡ record { number = n; rec = r } ∷ []
unfolding numbered
numbered-one n r = refl

pub numbered-none : (n : ℕ) → numbered n [] ≡ []
unfolding numbered
numbered-none n = refl

pub length-numbered : (n : ℕ) (rs : List Rec) → length (numbered n rs) ≡ length rs
unfolding numbered
length-numbered n [] = refl
length-numbered n (r ∷ rs) = omega (arith, length-numbered (n + 1) rs)

-- those that stand behind others rise too
pub waiting_rises : (n : ℕ) (rs : List Rec) (done waiting : List Numbered) → numbered n rs ≡ done ++ waiting → RisesFrom n (numbers_of waiting)
waiting_rises n rs done waiting split =
    rises_behind n (numbers_of done) (numbers_of waiting)
    (subst (RisesFrom n) (ap numbers_of split ∙ map-append (λ (p : Numbered). p.number) done waiting) (numbered_rises n rs))

-- ---- a number is sought by halving

pub at_least : (i j m a : ℕ) (ms : List ℕ) → RisesFrom 0 ms → slice_get ms i ≡ Some m → slice_get ms j ≡ Some a → a ≤ m → j ≤ i
at_least i j m a ms rises is at most =
    elim (cases_lt i j) [ inl before ↦ absurd (omega (arith, most, rises_before 0 i j m a ms rises is at before)) | inr behind ↦ behind ]

pub below : (i j m a : ℕ) (ms : List ℕ) → RisesFrom 0 ms → slice_get ms i ≡ Some m → slice_get ms j ≡ Some a → m < a → i < j
below i j m a ms rises is at less =
    elim (cases_lt i j) [
      | inl before ↦ before
      | inr behind ↦ absurd (elim (cases_lt j i) [
        | inl after ↦ omega (arith, less, rises_before 0 j i a m ms rises at is after)
        | inr same ↦
            let here : j ≡ i = omega (arith, behind, same) in
            let one : Some a ≡ Some m = sym at ∙ ap (slice_get ms) here ∙ is in
            let equal : a ≡ m = cc in
            omega (arith, less, equal)
      ])
    ]
