-- Vectors of bytes that are computed lane by lane.
use Rattle.std.proofs.Common.{◌≡◌, ℕ, zero, suc, ◌<◌, ◌+◌, ◌-◌, ◌*◌, ◌/◌, ◌^◌, Bool, true, false, cond, leb, ltb, T, List, [], ◌∷◌, ◌++◌, get_or, length, map, refl, arith, ap, subst, sym, ◌∙◌, w8, Fits, bit_and, bit_xor, replicate}
use Rattle.std.proofs.lemmas.Simd.{zip2_splat, zip2_of_maps, map-map}
use Rattle.std.specs.Simd.Lanes.{Each1, zip2}
use Rattle.std.specs.Prelude.{◌||◌}
use Rattle.std.proofs.lemmas.Bool.{ltb-true}
use Rattle.std.proofs.lemmas.List.{get_or_append_left, get_or-append_right}
use Rattle.crypto_model.proofs.Computed.{all_below, all_below_at}
use Rattle.aes_core.specs.Nibbles.{IsPlace, read, high, low, both}

passes : (b : Bool) → b ≡ true → T b
passes b e = subst T (sym e) tt

each_map : (p : ℕ → Bool) (g : ℕ → ℕ) (v : List ℕ) → Each1 (Fits w8) v → all_below (λ x. p (g x)) 256 ≡ true → Each1 (λ j. T (p j)) (map g v)
each_map p g [] fits all = tt
each_map p g (x ∷ xs) fits all = (passes _ (all_below_at (λ x. p (g x)) 256 all x fits.0.fits), each_map p g xs fits.1 all)

-- a vector that g computes from v, each lane of which passes p
pub each_of_map : (p : ℕ → Bool) (g : ℕ → ℕ) (v xs : List ℕ) → Each1 (Fits w8) v → xs ≡ map g v → all_below (λ x. p (g x)) 256 ≡ true → Each1 (λ j. T (p j)) xs
each_of_map p g v xs fits e all = subst (Each1 (λ j. T (p j))) (sym e) (each_map p g v fits all)

-- two functions that agree at the bytes
pub same_map : (f g : ℕ → ℕ) (v : List ℕ) → Each1 (Fits w8) v → ((x : ℕ) → x < 256 → f x ≡ g x) → map f v ≡ map g v
same_map f g [] fits h = refl
same_map f g (x ∷ xs) fits h = let e = h x fits.0.fits in let r = same_map f g xs fits.1 h in rw (e, r) refl

-- h after a vector that f computes, where that agrees with g after k
pub mapped : (h f g k : ℕ → ℕ) (v xs : List ℕ) → Each1 (Fits w8) v → xs ≡ map f v → ((x : ℕ) → x < 256 → h (f x) ≡ g (k x)) → map h xs ≡ map g (map k v)
mapped h f g k v xs fits e same = ap (map h) e ∙ map-map h f v ∙ same_map (λ x. h (f x)) (λ x. g (k x)) v fits same ∙ sym (map-map g k v)

abbrev down : ℕ → ℕ → ℕ
down a b = a / 2 ^ b

pub highs : {n : ℕ} (v : List ℕ) → length v ≡ n → zip2 down v (replicate n 4) ≡ map high v
highs {n = n} v long = zip2_splat down v n 4 long

pub lows : {n : ℕ} (v : List ℕ) → length v ≡ n → zip2 bit_and v (replicate n 15) ≡ map low v
lows {n = n} v long = zip2_splat bit_and v n 15 long

pub boths : {n : ℕ} (v : List ℕ) → length v ≡ n → zip2 bit_xor (zip2 bit_and v (replicate n 15)) (zip2 down v (replicate n 4)) ≡ map both v
boths v long = zip2_of_maps bit_xor low high v (lows v long) (highs v long)

-- a look-up at a vector that g computes from v
pub looked : (t : List ℕ) (g : ℕ → ℕ) (v at : List ℕ) → at ≡ map g v → map (read t) at ≡ map (λ x. read t (g x)) v
looked t g v at e = ap (map (read t)) e ∙ map-map (read t) g v

-- a place in one half of a table that stands twice
place_reads : (x y : ℕ) (b c : Bool) → T (b || c) → (c ≡ true → x ≡ y) → cond b 0 x ≡ cond b 0 y
place_reads x y true c p h = refl
place_reads x y false true p h = h refl
place_reads x y false false p h = absurd p

in_half : (table : List ℕ) (j h : ℕ) → length table ≡ 16 → h < 2 → j < 16 → get_or (table ++ table) (16 * h + j) 0 ≡ get_or table j 0
in_half table j zero long lt below =
    let here : 16 * 0 + j ≡ j = omega arith in
    ap (λ (i : ℕ). get_or (table ++ table) i 0) here ∙ get_or_append_left table table 0 j (omega (arith, long))
in_half table j (suc zero) long lt below =
    let back : 16 * 1 + j - 16 ≡ j = omega arith in
    get_or-append_right table table 16 (16 * 1 + j) 0 long (omega arith) ∙ ap (λ (i : ℕ). get_or table i 0) back
in_half table j (suc (suc h)) long lt below = absurd (omega arith)

pub half_read : (table : List ℕ) (j h : ℕ) → length table ≡ 16 → h < 2 → IsPlace j → cond (leb 128 j) 0 (get_or (table ++ table) (16 * h + j) 0) ≡ read table j
half_read table j h long lt place = place_reads _ _ (leb 128 j) (ltb j 16) place (λ e. in_half table j h long lt (ltb-true j 16 e))
