-- A piece is a part of the packet, and what is laid over it is laid over the packet.
use Rattle.std.proofs.Common.{◌≡◌, ℕ, ◌+◌, ◌-◌, ◌<◌, ◌≤◌, List, [], ◌∷◌, ◌++◌, length, take, drop, min, slice_set, refl, sym, ap, ◌∙◌, suc, zero, arith, length-append, length-drop}
use Rattle.std.proofs.Common.{inl, inr}
use Rattle.std.proofs.lemmas.Bool.{lt-ltb, le-ltb, cases_lt}
use Rattle.std.proofs.lemmas.List.{drop-append-le, length-take, length-take-le, take-append-le}
use Rattle.std.proofs.Math.Seq.{drop-append-add}
use Rattle.seg_list.specs.Buffer.{Buffer, bytes_of, relaid_at, with_data}
use Rattle.crypto_model.specs.Chain.{laid_at}
use Rattle.seg_list.proofs.Cuts.{take-front, drop-front}
use Rattle.seg_list.proofs.Laid.{relaid_at-within, laid_at-front, laid_at-behind}
use Rattle.crypto_model.proofs.Laid.{length-laid_at}
use Rattle.mbuf_chain.specs.Chain.{packet_of, with_packet}
use Rattle.mbuf_chain.proofs.Chains.{with_packet-own}
use Rattle.mbuf_chain.specs.Piece.{LiesAt, piece_len, piece_laid}

pub length-bytes_of : (b : Buffer) → length (bytes_of b) ≡ length b.before + length b.body + length b.after
length-bytes_of b = omega (arith, length-append (b.before ++ b.body) b.after, length-append b.before b.body)

-- whatever is written to a buffer's data, they are as many
pub body_laid : (at : ℕ) (b : Buffer) (w : List ℕ) → length (relaid_at at b w).body ≡ length b.body
body_laid at b w =
    let ys = laid_at (length b.before + at) w (bytes_of b) in
    omega (arith, length-take (length b.body) (drop (length b.before) ys), length-drop (length b.before) ys, length-laid_at (length b.before + at) w (bytes_of b), length-bytes_of b)

LiesAt-tail : (x : Buffer) (xs : List Buffer) (off i at : ℕ) (b : Buffer) → LiesAt (x ∷ xs) off (suc i) at b → (length x.body ≤ off) × LiesAt xs (off - length x.body) i at b
LiesAt-tail x xs off i at b h =
    let e = length-append x.body (packet_of (take i xs)) in
    let far : off ≡ length (x.body ++ packet_of (take i xs)) + at = h.far in
    (omega arith, record { within = omega (arith, h.within); far = omega arith; buffer = h.buffer; inside = h.inside })

pub piece_len-at : (c : List Buffer) (off n i at : ℕ) (b : Buffer) → LiesAt c off i at b → piece_len off n c ≡ min n (length b.body - at)
piece_len-at [] off n i at b h = let no = h.within in absurd (omega arith)
piece_len-at (x ∷ xs) off n zero at b h =
    let e : off ≡ at = omega (arith, h.far) in
    let s : x ≡ b = h.buffer in
    rw (s, e, lt-ltb at (length b.body) h.inside) refl
piece_len-at (x ∷ xs) off n (suc i) at b h =
    let t = LiesAt-tail x xs off i at b h in
    rw (le-ltb off (length x.body) t.0) (piece_len-at xs (off - length x.body) n i at b t.1)

pub piece_laid-at : (c : List Buffer) (off i at : ℕ) (b : Buffer) (w : List ℕ) → LiesAt c off i at b → piece_laid off c w ≡ slice_set c i (relaid_at at b w)
piece_laid-at [] off i at b w h = let no = h.within in absurd (omega arith)
piece_laid-at (x ∷ xs) off zero at b w h =
    let e : off ≡ at = omega (arith, h.far) in
    let s : x ≡ b = h.buffer in
    rw (s, e, lt-ltb at (length b.body) h.inside) refl
piece_laid-at (x ∷ xs) off (suc i) at b w h =
    let t = LiesAt-tail x xs off i at b h in
    rw (le-ltb off (length x.body) t.0) (ap (λ ys. x ∷ ys) (piece_laid-at xs (off - length x.body) i at b w t.1))

pub packet-at : (c : List Buffer) (off i at : ℕ) (b : Buffer) → LiesAt c off i at b → drop off (packet_of c) ≡ drop at b.body ++ packet_of (drop (suc i) c)
packet-at [] off i at b h = let no = h.within in absurd (omega arith)
packet-at (x ∷ xs) off zero at b h =
    let e : off ≡ at = omega (arith, h.far) in
    let s : x ≡ b = h.buffer in
    rw (s, e) (drop-append-le at b.body (packet_of xs) (omega (arith, h.inside)))
packet-at (x ∷ xs) off (suc i) at b h =
    let t = LiesAt-tail x xs off i at b h in
    let e : off ≡ length x.body + (off - length x.body) = omega (arith, t.0) in
    ap (λ k. drop k (x.body ++ packet_of xs)) e ∙ drop-append-add x.body (packet_of xs) (off - length x.body) ∙ packet-at xs (off - length x.body) i at b t.1

piece_len-first : (x : Buffer) (xs : List Buffer) (off n : ℕ) → off < length x.body → piece_len off n (x ∷ xs) ≡ min n (length x.body - off)
piece_len-first x xs off n here = rw (lt-ltb off (length x.body) here) refl

piece_len-later : (x : Buffer) (xs : List Buffer) (off n : ℕ) → length x.body ≤ off → piece_len off n (x ∷ xs) ≡ piece_len (off - length x.body) n xs
piece_len-later x xs off n behind = rw (le-ltb off (length x.body) behind) refl

-- a piece ends within the packet, and is no longer than asked
pub piece_len-most : (c : List Buffer) (off n : ℕ) → off ≤ length (packet_of c) → (off + piece_len off n c ≤ length (packet_of c)) × (piece_len off n c ≤ n)
piece_len-most [] off n inside = (omega (arith, inside), omega arith)
piece_len-most (x ∷ xs) off n inside =
    let k = length-append x.body (packet_of xs) in
    elim (cases_lt off (length x.body)) [
      | inl here ↦ let e = piece_len-first x xs off n here in (omega (arith, e), omega (arith, e))
      | inr behind ↦ let e = piece_len-later x xs off n behind in let t = piece_len-most xs (off - length x.body) n (omega arith) in (omega (arith, e, t.0), omega (arith, e, t.1))
    ]

-- where the bytes laid are as many as the piece
pub piece_laid-packet : (c : List Buffer) (off : ℕ) (w : List ℕ) → off < length (packet_of c) → length w ≤ piece_len off (length w) c → piece_laid off c w ≡ with_packet c (laid_at off w (packet_of c))
piece_laid-packet [] off w inside fits = absurd (omega (arith, inside))
piece_laid-packet (x ∷ xs) off w inside fits =
    let n = length-append x.body (packet_of xs) in
    elim (cases_lt off (length x.body)) [
      | inl here ↦
          let e = piece_len-first x xs off (length w) here in
          let k = length-laid_at off w x.body in
          let new = laid_at off w x.body in
          rw (lt-ltb off (length x.body) here, relaid_at-within off x w (omega (arith, e)))
          (ap (λ ys. with_data x ys ∷ xs) (sym (take-front new (packet_of xs))) ∙ ap (λ ys. with_data x (take (length new) (new ++ packet_of xs)) ∷ ys) (sym (with_packet-own xs) ∙ ap (λ ys. with_packet xs ys) (sym (drop-front new (packet_of xs))))
          ∙ ap (λ j. with_data x (take j (new ++ packet_of xs)) ∷ with_packet xs (drop j (new ++ packet_of xs))) k
          ∙ ap (λ ys. with_packet (x ∷ xs) ys) (sym (laid_at-front off w x.body (packet_of xs) (omega (arith, e)))))
      | inr behind ↦
          let e = piece_len-later x xs off (length w) behind in
          let j = off - length x.body in
          let t = piece_len-most xs j (length w) (omega arith) in
          let new = laid_at j w (packet_of xs) in
          let is : length x.body + j ≡ off = omega arith in
          rw (le-ltb off (length x.body) behind)
          (ap (λ ys. x ∷ ys) (piece_laid-packet xs j w (omega arith) (omega (arith, e)))
          ∙ ap (λ ys. with_data x ys ∷ with_packet xs new) (sym (take-front x.body new)) ∙ ap (λ ys. with_data x (take (length x.body) (x.body ++ new)) ∷ with_packet xs ys) (sym (drop-front x.body new))
          ∙ ap (λ ys. with_packet (x ∷ xs) ys) (sym (laid_at-behind j w x.body (packet_of xs) (omega (arith, e, t.0))) ∙ ap (λ i. laid_at i w (x.body ++ packet_of xs)) is))
    ]

-- what is lent is the piece
pub piece_lent : (c : List Buffer) (off n i at : ℕ) (b : Buffer) (r : List ℕ) → LiesAt c off i at b → 0 < n → r ≡ take (min n (length b.body - at)) (drop at b.body)
    → (r ≡ take (piece_len off n c) (drop off (packet_of c))) × (length r ≡ piece_len off n c) × (0 < length r) × (length r ≤ n)
piece_lent c off n i at b r h some is =
    let k = piece_len-at c off n i at b h in
    let inside = h.inside in
    let m : length r ≡ min n (length b.body - at) = ap length is ∙ length-take-le (min n (length b.body - at)) (drop at b.body) (omega (arith, length-drop at b.body)) in
    let e : take (piece_len off n c) (drop off (packet_of c)) ≡ take (min n (length b.body - at)) (drop at b.body) =
    ap (λ j. take j (drop off (packet_of c))) k ∙ ap (λ ys. take (min n (length b.body - at)) ys) (packet-at c off i at b h)
    ∙ take-append-le (min n (length b.body - at)) (drop at b.body) (packet_of (drop (suc i) c)) (omega (arith, length-drop at b.body)) in
    (is ∙ sym e, m ∙ sym k, omega arith, omega arith)

-- a piece of all it was asked
pub piece_len-own : (c : List Buffer) (off n k : ℕ) → k ≡ piece_len off n c → piece_len off k c ≡ k
piece_len-own [] off n k e = sym e
piece_len-own (x ∷ xs) off n k e =
    elim (cases_lt off (length x.body)) [
      | inl here ↦ let f = piece_len-first x xs off n here in piece_len-first x xs off k here ∙ omega (arith, e, f)
      | inr behind ↦ piece_len-later x xs off k behind ∙ piece_len-own xs (off - length x.body) n k (e ∙ piece_len-later x xs off n behind)
    ]

-- a piece of fewer bytes than there are
pub piece_len-less : (c : List Buffer) (off n k : ℕ) → k ≤ piece_len off n c → piece_len off k c ≡ k
piece_len-less [] off n k h = omega arith
piece_len-less (x ∷ xs) off n k h =
    elim (cases_lt off (length x.body)) [
      | inl here ↦ let f = piece_len-first x xs off n here in piece_len-first x xs off k here ∙ omega (arith, h, f)
      | inr behind ↦ let l = piece_len-later x xs off n behind in piece_len-later x xs off k behind ∙ piece_len-less xs (off - length x.body) n k (omega (arith, h, l))
    ]

-- what is written to a piece leaves the segments' lengths
pub piece_len-laid : (c : List Buffer) (off at n : ℕ) (w : List ℕ) → piece_len at n (piece_laid off c w) ≡ piece_len at n c
piece_len-laid [] off at n w = refl
piece_len-laid (x ∷ xs) off at n w =
    elim (cases_lt off (length x.body)) [
      | inl here ↦
          let e = body_laid off x w in
          rw (lt-ltb off (length x.body) here, e) refl
      | inr behind ↦
          rw (le-ltb off (length x.body) behind, piece_len-laid xs (off - length x.body) (at - length x.body) n w) refl
    ]

pub length-piece_laid : (c : List Buffer) (off : ℕ) (w : List ℕ) → length (packet_of (piece_laid off c w)) ≡ length (packet_of c)
length-piece_laid [] off w = refl
length-piece_laid (x ∷ xs) off w =
    elim (cases_lt off (length x.body)) [
      | inl here ↦ let e = lt-ltb off (length x.body) here in rw e (omega (arith, body_laid off x w, length-append x.body (packet_of xs), length-append (relaid_at off x w).body (packet_of xs)))
      | inr behind ↦
          let e = le-ltb off (length x.body) behind in
          rw e (omega (arith, length-piece_laid xs (off - length x.body) w, length-append x.body (packet_of xs), length-append x.body (packet_of (piece_laid (off - length x.body) xs w))))
    ]
