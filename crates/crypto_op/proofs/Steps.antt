-- One step along a list.
use Rattle.std.proofs.Common.{◌≡◌, ℕ, zero, suc, ◌+◌, List, [], ◌∷◌, ◌++◌, take, drop, ap, add-one}

front_next-suc : {X : Type 0} (xs : List X) (i : ℕ) (x : X) (r : List X) → drop i xs ≡ x ∷ r → take (suc i) xs ≡ take i xs ++ x ∷ []
front_next-suc [] zero x r e = cc
front_next-suc [] (suc i) x r e = cc
front_next-suc (y ∷ ys) zero x r e = cc
front_next-suc (y ∷ ys) (suc i) x r e = ap (λ l. y ∷ l) (front_next-suc ys i x r e)

rest_next-suc : {X : Type 0} (xs : List X) (i : ℕ) (x : X) (r : List X) → drop i xs ≡ x ∷ r → drop (suc i) xs ≡ r
rest_next-suc [] zero x r e = cc
rest_next-suc [] (suc i) x r e = cc
rest_next-suc (y ∷ ys) zero x r e = cc
rest_next-suc (y ∷ ys) (suc i) x r e = rest_next-suc ys i x r e

pub front_next : {X : Type 0} (xs : List X) (i : ℕ) (x : X) (r : List X) → drop i xs ≡ x ∷ r → take (i + 1) xs ≡ take i xs ++ x ∷ []
front_next xs i x r e = rw add-one (front_next-suc xs i x r e)

pub rest_next : {X : Type 0} (xs : List X) (i : ℕ) (x : X) (r : List X) → drop i xs ≡ x ∷ r → drop (i + 1) xs ≡ r
rest_next xs i x r e = rw add-one (rest_next-suc xs i x r e)
