-- Laws of cuts and of bytes laid over others.
use Rattle.std.proofs.Common.{◌≡◌, ℕ, ◌+◌, ◌-◌, ◌≤◌, List, ◌++◌, length, take, drop, refl, sym, append_assoc, arith, length-drop}
use Rattle.std.proofs.lemmas.Grind.{common_steps}
use Rattle.std.proofs.lemmas.List.{length-take-le, drop-take, take-take, drop-drop}
use Rattle.seg_list.specs.Buffer.{Buffer, bytes_of, cut_at, relaid_at}
use Rattle.crypto_model.specs.Chain.{laid_at}

pub take-front : (a b : List ℕ) → take (length a) (a ++ b) ≡ a
take-front a b = grind (arith, common_steps)

pub drop-front : (a b : List ℕ) → drop (length a) (a ++ b) ≡ b
drop-front a b = grind (arith, common_steps)

-- a cut keeps the bytes
pub bytes_of-cut_at : (off len : ℕ) (xs : List ℕ) → bytes_of (cut_at off len xs) ≡ xs
bytes_of-cut_at off len xs = grind (arith, common_steps)

-- and cuts them where they were joined
pub cut_at-bytes_of : (b : Buffer) → cut_at (length b.before) (length b.body) (bytes_of b) ≡ b
cut_at-bytes_of b =
    rw (append_assoc b.before b.body b.after, drop-front b.before (b.body ++ b.after), take-front b.before (b.body ++ b.after), take-front b.body b.after, drop-front b.body b.after) refl

pub laid_at-split : (p q r w : List ℕ) → length q ≡ length w → laid_at (length p) w (p ++ (q ++ r)) ≡ p ++ (w ++ r)
laid_at-split p q r w same =
    rw (take-front p (q ++ r), drop-front p (q ++ r), sym same, drop-front q r)
    (grind (arith, common_steps))

-- where a cut ends
pub cut_at-at : (off len : ℕ) (xs : List ℕ) → off + len ≤ length xs → (length (cut_at off len xs).before ≡ off) × (length (cut_at off len xs).body ≡ len)
cut_at-at off len xs fits = (length-take-le off xs (omega arith), length-take-le len (drop off xs) (omega (arith, length-drop off xs)))

-- a write over a part of the data
pub relaid_at-lent : (off len at : ℕ) (w xs ys : List ℕ) (b : Buffer) → off + len ≤ length xs → at ≤ len → cut_at off len xs ≡ b → ys ≡ laid_at (off + at) w xs
    → cut_at off len ys ≡ relaid_at at b w
relaid_at-lent off len at w xs ys b fits within is new =
    let e = cut_at-at off len xs fits in
    rw (new, ← is) (rw (e.0, e.1, bytes_of-cut_at off len xs) refl)

-- a part of the data is a range of all bytes
pub range_of_body : (off len at n : ℕ) (xs : List ℕ) → at + n ≤ len → take (off + at + n - (off + at)) (drop (off + at) xs) ≡ take n (drop at (take len (drop off xs)))
range_of_body off len at n xs within =
    let m = len - at in
    let e : len ≡ at + m = omega arith in
    let k : off + at + n - (off + at) ≡ n = omega arith in
    rw (e, drop-take at m (drop off xs), take-take n m (drop at (drop off xs)) (omega arith), drop-drop at off xs, k) refl
