-- Bytes laid over others.
use Rattle.std.proofs.Common.{◌≡◌, ℕ, ◌+◌, ◌≤◌, List, ◌++◌, length, take, drop, sym, ◌∙◌, arith, append_assoc, length-append, length-take, length-drop}
use Rattle.std.proofs.lemmas.List.{take-append-le, take_all, drop-drop, length-take-le}
use Rattle.crypto_model.specs.Chain.{laid_at}

-- where they fit
pub laid_at-fits : (i : ℕ) (ys xs : List ℕ) → i + length ys ≤ length xs → laid_at i ys xs ≡ (take i xs ++ ys) ++ drop (i + length ys) xs
laid_at-fits i ys xs fits =
    rw (drop-drop (length ys) i xs)
    (take_all (length xs) (take i xs ++ (ys ++ drop (i + length ys) xs))
    (omega (arith, length-append (take i xs) (ys ++ drop (i + length ys) xs), length-append ys (drop (i + length ys) xs), length-drop (i + length ys) xs, length-take-le i xs (omega arith)))
    ∙ sym (append_assoc (take i xs) ys (drop (i + length ys) xs)))

-- what std's vector ends as, where a slice of it is written
pub lent_piece : (off n : ℕ) (w xs rest : List ℕ) → n ≡ length xs → off ≤ length xs
    → take n ((take off xs ++ (w ++ drop (length w) (drop off xs))) ++ rest) ≡ laid_at off w xs
lent_piece off n w xs rest is inside =
    let front = take off xs ++ (w ++ drop (length w) (drop off xs)) in
    let long : length xs ≤ length front =
    omega (arith, length-append (take off xs) (w ++ drop (length w) (drop off xs)), length-append w (drop (length w) (drop off xs)), length-drop (length w) (drop off xs), length-drop off xs, length-take off xs) in
    rw is (take-append-le (length xs) front rest long)

pub length-laid_at : (i : ℕ) (ys xs : List ℕ) → length (laid_at i ys xs) ≡ length xs
length-laid_at i ys xs =
    let all = take i xs ++ (ys ++ drop (length ys) (drop i xs)) in
    omega (
      arith,
      length-take (length xs) all,
      length-append (take i xs) (ys ++ drop (length ys) (drop i xs)),
      length-append ys (drop (length ys) (drop i xs)),
      length-drop (length ys) (drop i xs),
      length-drop i xs,
      length-take i xs,
    )
