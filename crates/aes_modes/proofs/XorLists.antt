-- The exclusive or of lists.
use Rattle.std.proofs.Common.{◌≡◌, ℕ, zero, suc, ◌<◌, ◌≤◌, ◌+◌, List, [], ◌∷◌, ◌++◌, length, take, drop, slice_index, slice_set, bit_xor, refl, ap, sym, ◌∙◌, arith, inl, inr}
use Rattle.std.specs.Simd.Lanes.{zip2, put_chunk}
use Rattle.std.proofs.lemmas.List.{ext_get_or, get_or-set_other, get_or-set_same, take_all}
use Rattle.std.proofs.lemmas.Simd.{put_chunk_whole}
use Rattle.std.proofs.lemmas.Bool.{cases_lt}
use Rattle.crypto_model.specs.Modes.{xor_with}

pub length-xor_with : (xs ys : List ℕ) → length xs ≤ length ys → length (xor_with xs ys) ≡ length xs
unfolding xor_with
length-xor_with [] ys h = refl
length-xor_with (x ∷ xs) [] h = absurd (omega arith)
length-xor_with (x ∷ xs) (y ∷ ys) h = ap suc (length-xor_with xs ys (omega arith))

at-xor_with : (xs ys : List ℕ) (i : ℕ) → i < length xs → length xs ≤ length ys → slice_index (xor_with xs ys) i ≡ bit_xor (slice_index xs i) (slice_index ys i)
unfolding xor_with
at-xor_with [] ys i l h = absurd (omega arith)
at-xor_with (x ∷ xs) [] i l h = absurd (omega arith)
at-xor_with (x ∷ xs) (y ∷ ys) zero l h = refl
at-xor_with (x ∷ xs) (y ∷ ys) (suc i) l h = at-xor_with xs ys i (omega arith) (omega arith)

pub is_xor_with : (xs ys out : List ℕ) → length out ≡ length xs → length xs ≤ length ys
    → ((k : ℕ) → k < length xs → slice_index out k ≡ bit_xor (slice_index xs k) (slice_index ys k)) → out ≡ xor_with xs ys
is_xor_with xs ys out same fits each =
    ext_get_or 0 out (xor_with xs ys) (same ∙ sym (length-xor_with xs ys fits)) (λ k h. each k (omega arith) ∙ sym (at-xor_with xs ys k (omega arith) fits))

-- the bytes that the loop has written, and those that it has not come to
pub written_more : (xs : List ℕ) (i v : ℕ) (f : ℕ → ℕ) → i < length xs → ((k : ℕ) → k < i → slice_index xs k ≡ f k) → v ≡ f i
    → (k : ℕ) → k < i + 1 → slice_index (slice_set xs i v) k ≡ f k
written_more xs i v f inside before here k h = elim (cases_lt k i) [
  | inl less ↦ get_or-set_other xs i k v 0 (omega arith) ∙ before k less
  | inr more ↦ let e : k ≡ i = omega arith in rw e (get_or-set_same xs i v 0 inside ∙ here)
]

pub rest_fewer : (xs ys : List ℕ) (i v : ℕ) → ((k : ℕ) → i ≤ k → slice_index xs k ≡ slice_index ys k)
    → (k : ℕ) → i + 1 ≤ k → slice_index (slice_set xs i v) k ≡ slice_index ys k
rest_fewer xs ys i v before k h = get_or-set_other xs i k v 0 (omega arith) ∙ before k (omega arith)

zip2_is : (xs ys : List ℕ) → zip2 bit_xor xs ys ≡ xor_with xs ys
unfolding xor_with
zip2_is [] ys = refl
zip2_is (x ∷ xs) [] = refl
zip2_is (x ∷ xs) (y ∷ ys) = ap (λ (zs : List ℕ). bit_xor x y ∷ zs) (zip2_is xs ys)

-- a vector that is read, changed and written back as lanes
pub lanes_written : (n : ℕ) (block stream : List ℕ) → length block ≡ n → length stream ≡ n
    → put_chunk 0 block (zip2 bit_xor (take n block) stream) ≡ xor_with block stream
lanes_written n block stream long wide =
    let whole : take n block ≡ block = take_all n block (omega arith) in
    rw (whole, zip2_is block stream) (put_chunk_whole block (xor_with block stream) (omega (arith, length-xor_with block stream (omega arith))))

pub nothing-xor_with : (ys : List ℕ) → xor_with [] ys ≡ []
unfolding xor_with
nothing-xor_with ys = refl

xor_with-nothing : (xs : List ℕ) → xor_with xs [] ≡ []
unfolding xor_with
xor_with-nothing [] = refl
xor_with-nothing (x ∷ xs) = refl

-- with a list in two parts
pub xor_with-parts : (xs s r : List ℕ) → xor_with xs (s ++ r) ≡ xor_with (take (length s) xs) s ++ xor_with (drop (length s) xs) r
unfolding xor_with
xor_with-parts xs [] r = refl
xor_with-parts [] (y ∷ s) r = refl
xor_with-parts (x ∷ xs) (y ∷ s) r = ap (λ (zs : List ℕ). bit_xor x y ∷ zs) (xor_with-parts xs s r)

-- of a list in two parts
pub append-xor_with : (xs ys s : List ℕ) → xor_with (xs ++ ys) s ≡ xor_with xs s ++ xor_with ys (drop (length xs) s)
unfolding xor_with
append-xor_with [] ys s = refl
append-xor_with (x ∷ xs) ys [] = sym (xor_with-nothing ys)
append-xor_with (x ∷ xs) ys (y ∷ s) = ap (λ (zs : List ℕ). bit_xor x y ∷ zs) (append-xor_with xs ys s)

-- what lies behind as many bytes doesn't count
pub xor_with-longer : (xs s r : List ℕ) → length xs ≤ length s → xor_with xs (s ++ r) ≡ xor_with xs s
unfolding xor_with
xor_with-longer [] s r h = refl
xor_with-longer (x ∷ xs) [] r h = absurd (omega arith)
xor_with-longer (x ∷ xs) (y ∷ s) r h = ap (λ (zs : List ℕ). bit_xor x y ∷ zs) (xor_with-longer xs s r (omega arith))

-- two parts, each with its own
pub both_parts : (n : ℕ) (xs s r first second out more : List ℕ) → length s ≡ n → first ≡ take n xs → second ≡ drop n xs
    → out ≡ xor_with first s → more ≡ xor_with second r → out ++ more ≡ xor_with xs (s ++ r)
both_parts n xs s r first second out more long front back is then =
    rw (is, then, front, back, ← long) (sym (xor_with-parts xs s r))
