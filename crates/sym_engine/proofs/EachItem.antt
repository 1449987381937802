-- A test of each item of a list, one after another.
use Rattle.std.proofs.Common.{◌≡◌, ℕ, zero, suc, ◌<◌, ◌+◌, List, [], ◌∷◌, length, map, refl, sym, ap, ◌∙◌, arith, Bool, true, false, take, slice_index_or}
use Rattle.std.specs.Prelude.{◌&&◌}
use Rattle.std.specs.List.{list_all}
use Rattle.crypto_model.proofs.Both.{both}

and_false : (b : Bool) → (b && false) ≡ false
and_false true = refl
and_false false = refl

-- where one fails, not all hold
pub one_fails : {X Y : Type 0} (test : Y → Bool) (plain : X → Y) (xs : List X) (i : ℕ) (x : X) → i < length xs → x ≡ slice_index_or xs i x
    → test (plain x) ≡ false → list_all test (map plain xs) ≡ false
one_fails test plain [] i x within is fails = absurd (omega arith)
one_fails test plain (y ∷ ys) zero x within is fails = rw (sym (ap (λ z. test (plain z)) is), fails) refl
one_fails test plain (y ∷ ys) (suc i) x within is fails = rw (one_fails test plain ys i x (omega arith) is fails) (and_false (test (plain y)))

-- one more holds
pub one_more : {X Y : Type 0} (test : Y → Bool) (plain : X → Y) (xs : List X) (i : ℕ) (x : X) → i < length xs → x ≡ slice_index_or xs i x
    → test (plain x) ≡ true → list_all test (map plain (take i xs)) ≡ true → list_all test (map plain (take (i + 1) xs)) ≡ true
one_more test plain [] i x within is holds before = absurd (omega arith)
one_more test plain (y ∷ ys) zero x within is holds before = rw (sym (ap (λ z. test (plain z)) is), holds) refl
one_more test plain (y ∷ ys) (suc i) x within is holds before =
    let h = both (test (plain y)) (list_all test (map plain (take i ys))) before in
    let e : suc i + 1 ≡ suc (i + 1) = omega arith in
    rw (e, h.0, one_more test plain ys i x (omega arith) is holds h.1) refl

-- where all hold, one does
pub one_of_all : {X Y : Type 0} (test : Y → Bool) (plain : X → Y) (xs : List X) (i : ℕ) (x : X) → i < length xs → x ≡ slice_index_or xs i x
    → list_all test (map plain xs) ≡ true → test (plain x) ≡ true
one_of_all test plain [] i x within is all = absurd (omega arith)
one_of_all test plain (y ∷ ys) zero x within is all = ap (λ z. test (plain z)) is ∙ (both (test (plain y)) (list_all test (map plain ys)) all).0
one_of_all test plain (y ∷ ys) (suc i) x within is all = one_of_all test plain ys i x (omega arith) is (both (test (plain y)) (list_all test (map plain ys)) all).1
