-- What stands for a sum is the sum of what its parts stand for.
use Rattle.std.proofs.Common.{◌≡◌, ℕ, zero, suc, ◌*◌, ◌/◌, ◌%◌, ◌<◌, List, [], ◌∷◌, ◌++◌, map, get_or, bit_xor, refl, sym, ap, ◌∙◌, arith}
use Rattle.std.proofs.lemmas.Nat.{xor_shr, xor_mod}
use Rattle.std.proofs.lemmas.List.{map-append}
use Rattle.std.specs.Int.Bits.{xor_assoc, xor_comm, xor_self, xor_zero_r}
use Rattle.std.specs.Simd.Lanes.{zip2, pick_l}
use Rattle.aes_core.specs.Basis.{chosen_sum, back}

pub swap : (a b c d : ℕ) → bit_xor (bit_xor a b) (bit_xor c d) ≡ bit_xor (bit_xor a c) (bit_xor b d)
swap a b c d =
    xor_assoc a b (bit_xor c d) ∙ ap (bit_xor a) (sym (xor_assoc b c d) ∙ ap (λ q. bit_xor q d) (xor_comm b c) ∙ xor_assoc c b d) ∙ sym (xor_assoc a c (bit_xor b d))

pub bit_times : (p q b : ℕ) → p < 2 → q < 2 → bit_xor p q * b ≡ bit_xor (p * b) (q * b)
bit_times zero zero b h l = let z : 0 * b ≡ 0 = omega arith in rw z refl
bit_times zero (suc zero) b h l =
    let z : 0 * b ≡ 0 = omega arith in
    let o : 1 * b ≡ b = omega arith in
    rw (z, o) (sym (xor_comm 0 b ∙ xor_zero_r b))
bit_times (suc zero) zero b h l =
    let z : 0 * b ≡ 0 = omega arith in
    let o : 1 * b ≡ b = omega arith in
    rw (z, o) (sym (xor_zero_r b))
bit_times (suc zero) (suc zero) b h l =
    let z : 0 * b ≡ 0 = omega arith in
    let o : 1 * b ≡ b = omega arith in
    rw (z, o) (sym (xor_self b))
bit_times (suc (suc p)) q b h l = absurd (omega arith)
bit_times p (suc (suc q)) b h l = absurd (omega arith)

chosen_sum-xor : (bs : List ℕ) (x y : ℕ) → chosen_sum bs (bit_xor x y) ≡ bit_xor (chosen_sum bs x) (chosen_sum bs y)
unfolding chosen_sum
chosen_sum-xor [] x y = refl
chosen_sum-xor (b ∷ bs) x y =
    let m : bit_xor x y % 2 ≡ bit_xor (x % 2) (y % 2) = xor_mod x y 1 in
    let h : bit_xor x y / 2 ≡ bit_xor (x / 2) (y / 2) = xor_shr x y 1 in
    rw (m, h, bit_times (x % 2) (y % 2) b (omega arith) (omega arith), chosen_sum-xor bs (x / 2) (y / 2))
    (swap (x % 2 * b) (y % 2 * b) (chosen_sum bs (x / 2)) (chosen_sum bs (y / 2)))

pub back-xor : (x y : ℕ) → back (bit_xor x y) ≡ bit_xor (back x) (back y)
unfolding back
back-xor x y = chosen_sum-xor _ x y

pub map_back-xor : (xs ys : List ℕ) → map back (zip2 bit_xor xs ys) ≡ zip2 bit_xor (map back xs) (map back ys)
map_back-xor [] ys = refl
map_back-xor (x ∷ xs) [] = refl
map_back-xor (x ∷ xs) (y ∷ ys) = rw (back-xor x y, map_back-xor xs ys) refl

back-get_or : (xs : List ℕ) (k : ℕ) → back (get_or xs k 0) ≡ get_or (map back xs) k 0
unfolding back chosen_sum
back-get_or [] k = refl
back-get_or (x ∷ xs) zero = refl
back-get_or (x ∷ xs) (suc k) = back-get_or xs k

pub map_back-pick : (xs ks : List ℕ) → map back (pick_l 0 xs ks) ≡ pick_l 0 (map back xs) ks
map_back-pick xs [] = refl
map_back-pick xs (k ∷ ks) = rw (back-get_or xs k, map_back-pick xs ks) refl

pub map_back-twice : (xs ks : List ℕ) → map back (pick_l 0 (xs ++ xs) ks) ≡ pick_l 0 (map back xs ++ map back xs) ks
map_back-twice xs ks = map_back-pick (xs ++ xs) ks ∙ ap (λ (z : List ℕ). pick_l 0 z ks) (map-append back xs xs)
