-- The pieces of a range, joined.
use Rattle.std.proofs.Common.{◌≡◌, ℕ, zero, suc, ◌+◌, ◌-◌, ◌<◌, ◌≤◌, List, [], ◌∷◌, ◌++◌, length, take, drop, min, refl, sym, ap, ◌∙◌, arith, inl, inr, length-append, length-drop}
use Rattle.std.specs.Prelude.{false, nat_eq}
use Rattle.std.proofs.lemmas.Bool.Decides.{nat_tests}
use Rattle.std.proofs.lemmas.Bool.{lt-ltb, le-ltb, cases_lt}
use Rattle.std.proofs.lemmas.List.{take_all, take-append-le, drop-append-le}
use Rattle.std.proofs.Math.Seq.{drop-append-add, take-append-add}
use mathlib.Core.List.{append-nil}
use Rattle.seg_list.specs.Buffer.{Buffer}
use Rattle.mbuf_chain.specs.Chain.{packet_of}
use Rattle.mbuf_chain.specs.Pieces.{joined, pieces_of}

pub no_pieces : (off : ℕ) (c : List Buffer) → pieces_of off 0 c ≡ []
no_pieces off [] = refl
no_pieces off (b ∷ bs) = refl

pub pieces_here : (off n : ℕ) (b : Buffer) (bs : List Buffer) → 0 < n → off < length b.body → pieces_of off n (b ∷ bs) ≡ take n (drop off b.body) ∷ pieces_of 0 (n - (length b.body - off)) bs
pieces_here off n b bs some here = let more : nat_eq n 0 ≡ false = grind (arith, nat_tests) in rw (more, lt-ltb off (length b.body) here) refl

pub pieces_later : (off n : ℕ) (b : Buffer) (bs : List Buffer) → 0 < n → length b.body ≤ off → pieces_of off n (b ∷ bs) ≡ pieces_of (off - length b.body) n bs
pieces_later off n b bs some later = let more : nat_eq n 0 ≡ false = grind (arith, nat_tests) in rw (more, le-ltb off (length b.body) later) refl

-- as many as there are
pub take_least : (n m : ℕ) (xs : List ℕ) → m ≡ min n (length xs) → take m xs ≡ take n xs
take_least n m xs e =
    elim (cases_lt n (length xs)) [
      | inl less ↦ ap (λ k. take k xs) (omega (arith, e))
      | inr all ↦ take_all m xs (omega (arith, e)) ∙ sym (take_all n xs all)
    ]

-- the next piece of m bytes, and the rest
pub next_piece : (off n m : ℕ) (b : Buffer) (bs : List Buffer) → 0 < n → off < length b.body → m ≡ min n (length b.body - off)
    → pieces_of off n (b ∷ bs) ≡ take m (drop off b.body) ∷ pieces_of 0 (n - m) bs
next_piece off n m b bs some here e =
    pieces_here off n b bs some here
    ∙ ap (λ xs. xs ∷ pieces_of 0 (n - (length b.body - off)) bs) (sym (take_least n m (drop off b.body) (omega (arith, e, length-drop off b.body))))
    ∙ ap (λ k. take m (drop off b.body) ∷ pieces_of 0 k bs) (omega (arith, e))

-- the first m bytes of two lists
cut_in_two : (m : ℕ) (xs ys : List ℕ) (k : ℕ) → length xs ≡ k → take m xs ++ take (m - k) ys ≡ take m (xs ++ ys)
cut_in_two m xs ys k e =
    elim (cases_lt m k) [
      | inl less ↦
          let none : m - k ≡ 0 = omega (arith, less) in
          ap (λ j. take m xs ++ take j ys) none ∙ append-nil (take m xs) ∙ sym (take-append-le m xs ys (omega (arith, less, e)))
      | inr more ↦
          let is : length xs + (m - k) ≡ m = omega (arith, more, e) in
          ap (λ (zs : List ℕ). zs ++ take (m - k) ys) (take_all m xs (omega (arith, more, e))) ∙ sym (take-append-add xs ys (m - k)) ∙ ap (λ j. take j (xs ++ ys)) is
    ]

pub joined-pieces_of : (off n : ℕ) (c : List Buffer) → off + n ≤ length (packet_of c) → joined (pieces_of off n c) ≡ take n (drop off (packet_of c))
joined-pieces_of off zero c fits = ap joined (no_pieces off c)
joined-pieces_of off (suc n) [] fits = absurd (omega (arith, fits))
joined-pieces_of off (suc n) (b ∷ bs) fits =
    let k = length-append b.body (packet_of bs) in
    let m = suc n in
    elim (cases_lt off (length b.body)) [
      | inl here ↦
          let rest = drop off b.body in
          let d = length-drop off b.body in
          let split : drop off (b.body ++ packet_of bs) ≡ rest ++ packet_of bs = drop-append-le off b.body (packet_of bs) (omega (arith, here)) in
          ap joined (pieces_here off m b bs (omega arith) here)
          ∙ ap (λ (ys : List ℕ). take m rest ++ ys) (joined-pieces_of 0 (m - (length b.body - off)) bs (omega (arith, k, here)))
          ∙ cut_in_two m rest (packet_of bs) (length b.body - off) d
          ∙ ap (take m) (sym split)
      | inr later ↦
          ap joined (pieces_later off m b bs (omega arith) later) ∙ joined-pieces_of (off - length b.body) m bs (omega (arith, k, later))
          ∙ ap (take m) (sym (drop-append-add b.body (packet_of bs) (off - length b.body)) ∙ ap (λ j. drop j (b.body ++ packet_of bs)) (omega (arith, later)))
    ]
