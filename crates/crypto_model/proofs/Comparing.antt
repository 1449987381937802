-- Two texts compared byte by byte, with the differences joined.
use Rattle.std.proofs.Common.{◌≡◌, ℕ, ◌%◌, ◌/◌, ◌^◌, List, [], ◌∷◌, length, bit_or, bit_xor, refl, sym, ap, ◌∙◌, arith, Bool, true, false, inl, inr, ◌⊎◌}
use Rattle.std.specs.Prelude.{bytes_eq, ◌==◌, ◌&&◌}
use Rattle.std.specs.Int.Bits.{xor_self}
use Rattle.std.proofs.lemmas.Nat.{le_or_l, le_or_r}
use Rattle.std.proofs.lemmas.Nat.Bits.{same_from_bits, bit_at_xor, bit_at-zero, bit_at-lt}
use Rattle.std.proofs.lemmas.Bool.Decides.{same_from_decides, Decides-eqb, Decides-like, Decides-and}

same_from_xor : (x y : ℕ) → bit_xor x y ≡ 0 → x ≡ y
same_from_xor x y none =
    same_from_bits x y (λ i. omega (arith, sym (bit_at_xor x y i) ∙ ap (λ n. n / 2 ^ i % 2) none ∙ bit_at-zero i, bit_at-lt x i, bit_at-lt y i))

none_joined : (d x y : ℕ) → d ≡ 0 → x ≡ y → bit_or d (bit_xor x y) ≡ 0
none_joined d x y e f = rw (e, f, xor_self y) refl

none_of_two : (d x y : ℕ) → bit_or d (bit_xor x y) ≡ 0 → (d ≡ 0) × (x ≡ y)
none_of_two d x y e = (omega (arith, le_or_l d (bit_xor x y)), same_from_xor x y (omega (arith, le_or_r d (bit_xor x y))))

joined : (d x y : ℕ) → (bit_or d (bit_xor x y) == 0) ≡ ((d == 0) && (x == y))
joined d x y =
    same_from_decides {P = (d ≡ 0) × (x ≡ y)} _ _
    (Decides-like _ (none_of_two d x y) (λ (p : (d ≡ 0) × (x ≡ y)). none_joined d x y p.0 p.1) (Decides-eqb (bit_or d (bit_xor x y)) 0))
    (Decides-and (d == 0) (x == y) (Decides-eqb d 0) (Decides-eqb x y))

and_and : (p q r : Bool) → (p && (q && r)) ≡ ((p && q) && r)
and_and true q r = refl
and_and false q r = refl

pub compared_more : (d x y : ℕ) (r : Bool) (xs ys as' bs : List ℕ) → as' ≡ x ∷ xs → bs ≡ y ∷ ys → r ≡ ((d == 0) && bytes_eq as' bs)
    → r ≡ ((bit_or d (bit_xor x y) == 0) && bytes_eq xs ys)
compared_more d x y r xs ys as' bs e f h =
    rw (e, f) at h ∙ and_and (d == 0) (x == y) (bytes_eq xs ys) ∙ rw (joined d x y) refl

none_left : (xs ys : List ℕ) → length xs ≡ length ys → (length xs ≡ 0) ⊎ (length ys ≡ 0) → bytes_eq xs ys ≡ true
none_left [] [] e h = refl
none_left [] (y ∷ ys) e h = absurd (omega (arith, e))
none_left (x ∷ xs) [] e h = absurd (omega (arith, e))
none_left (x ∷ xs) (y ∷ ys) e (inl h) = absurd (omega (arith, h))
none_left (x ∷ xs) (y ∷ ys) e (inr h) = absurd (omega (arith, h))

and_true : (p : Bool) → (p && true) ≡ p
and_true true = refl
and_true false = refl

pub compared_all : (d : ℕ) (r : Bool) (xs ys : List ℕ) → length xs ≡ length ys → (length xs ≡ 0) ⊎ (length ys ≡ 0) → r ≡ ((d == 0) && bytes_eq xs ys) → (d == 0) ≡ r
compared_all d r xs ys e n h = sym (rw (none_left xs ys e n) at h ∙ and_true (d == 0))
