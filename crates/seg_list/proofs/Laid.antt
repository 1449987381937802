-- Laws of bytes laid over others.
use Rattle.std.proofs.Common.{◌≡◌, ℕ, ◌+◌, ◌≤◌, List, ◌++◌, length, take, drop, refl, sym, ap, ◌∙◌, append_assoc, arith, length-append, length-drop}
use Rattle.std.proofs.lemmas.List.{length-take-le, take-append-le, drop-append-le, drop-drop}
use Rattle.std.proofs.Math.Seq.{take-add, drop-append-add}
use Rattle.seg_list.specs.Buffer.{Buffer, bytes_of, cut_at, relaid_at, with_data}
use Rattle.crypto_model.specs.Chain.{laid_at}
use Rattle.crypto_model.proofs.Laid.{laid_at-fits, length-laid_at}
use Rattle.seg_list.proofs.Cuts.{take-front, drop-front, cut_at-bytes_of}

-- where they fit, joined from the right
pub laid_at-joined : (i : ℕ) (w xs : List ℕ) → i + length w ≤ length xs → laid_at i w xs ≡ take i xs ++ (w ++ drop (i + length w) xs)
laid_at-joined i w xs fits = laid_at-fits i w xs fits ∙ append_assoc (take i xs) w (drop (i + length w) xs)

-- in the first of two lists
pub laid_at-front : (i : ℕ) (w a b : List ℕ) → i + length w ≤ length a → laid_at i w (a ++ b) ≡ laid_at i w a ++ b
laid_at-front i w a b fits =
    let n = length-append a b in
    rw (
      laid_at-joined i w (a ++ b) (omega arith),
      laid_at-joined i w a fits,
      take-append-le i a b (omega arith),
      drop-append-le (i + length w) a b fits,
      append_assoc (take i a) (w ++ drop (i + length w) a) b,
      append_assoc w (drop (i + length w) a) b,
    ) refl

-- in the second
pub laid_at-behind : (j : ℕ) (w a b : List ℕ) → j + length w ≤ length b → laid_at (length a + j) w (a ++ b) ≡ a ++ laid_at j w b
laid_at-behind j w a b fits =
    let n = length-append a b in
    let e : length a + j + length w ≡ length a + (j + length w) = omega arith in
    rw (
      laid_at-joined (length a + j) w (a ++ b) (omega arith),
      laid_at-joined j w b fits,
      e,
      drop-append-add a b (j + length w),
      take-add (length a) j (a ++ b),
      take-front a b,
      drop-front a b,
      append_assoc a (take j b) (w ++ drop (j + length w) b),
    ) refl

-- one behind another
pub laid_at-again : (i : ℕ) (u w xs : List ℕ) → i + length u + length w ≤ length xs → laid_at (i + length u) w (laid_at i u xs) ≡ laid_at i (u ++ w) xs
laid_at-again i u w xs fits =
    let n = length-append u w in
    let F = take i xs ++ u in
    let R = drop (i + length u) xs in
    let short = length-take-le i xs (omega arith) in
    let m = length-append (take i xs) u in
    let rest = length-drop (i + length u) xs in
    let here : i + length u ≡ length F + 0 = omega arith in
    let far : i + length u + (0 + length w) ≡ i + length (u ++ w) = omega arith in
    ap (λ ys. laid_at (i + length u) w ys) (laid_at-joined i u xs (omega arith) ∙ sym (append_assoc (take i xs) u R))
    ∙ ap (λ k. laid_at k w (F ++ R)) here
    ∙ laid_at-behind 0 w F R (omega arith)
    ∙ ap (λ ys. F ++ ys) (laid_at-joined 0 w R (omega arith))
    ∙ append_assoc (take i xs) u (w ++ drop (0 + length w) R)
    ∙ ap (λ ys. take i xs ++ ys) (sym (append_assoc u w (drop (0 + length w) R)))
    ∙ ap (λ ys. take i xs ++ ((u ++ w) ++ ys)) (drop-drop (0 + length w) (i + length u) xs ∙ ap (λ k. drop k xs) far)
    ∙ sym (laid_at-joined i (u ++ w) xs (omega arith))

-- in a buffer's data
pub relaid_at-within : (at : ℕ) (b : Buffer) (w : List ℕ) → at + length w ≤ length b.body → relaid_at at b w ≡ with_data b (laid_at at w b.body)
relaid_at-within at b w fits =
    let new = with_data b (laid_at at w b.body) in
    ap (λ xs. cut_at (length b.before) (length b.body) xs)
    (ap (λ xs. laid_at (length b.before + at) w xs) (append_assoc b.before b.body b.after)
    ∙ laid_at-behind at w b.before (b.body ++ b.after) (omega (arith, length-append b.body b.after))
    ∙ ap (λ xs. b.before ++ xs) (laid_at-front at w b.body b.after fits) ∙ sym (append_assoc b.before (laid_at at w b.body) b.after))
    ∙ ap (λ k. cut_at (length b.before) k (bytes_of new)) (sym (length-laid_at at w b.body)) ∙ cut_at-bytes_of new
