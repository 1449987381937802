-- What a change at an end makes of the packet.
use Rattle.std.proofs.Common.{◌≡◌, ℕ, zero, suc, ◌-◌, ◌<◌, ◌≤◌, List, [], ◌∷◌, ◌++◌, length, take, drop, replicate, slice_set, slice_index_or, refl, sym, ap, ◌∙◌, inl, inr, append_assoc, arith, length-append}
use mathlib.Core.List.{append-nil}
use Rattle.std.proofs.lemmas.Bool.{le-leb, lt-leb, cases_lt}
use Rattle.std.proofs.lemmas.List.{take-append-le, drop-append-le, take_all}
use Rattle.std.proofs.Math.Seq.{take-append-add}
use Rattle.seg_list.specs.Buffer.{Buffer}
use Rattle.mbuf_chain.specs.Chain.{packet_of}
use Rattle.mbuf_chain.specs.Ends.{no_buffer, first_of, last_of, on_first, on_last, cut_front, cut_back, cut_to, zeros_before, zeros_behind}

-- ---- at the first segment

packet-first : (c : List Buffer) → 0 < length c → packet_of c ≡ (first_of c).body ++ packet_of (drop 1 c)
packet-first [] some = absurd (omega (arith, some))
packet-first (b ∷ bs) some = refl

packet-on_first : (f : Buffer → Buffer) (c : List Buffer) → 0 < length c → packet_of (on_first f c) ≡ (f (first_of c)).body ++ packet_of (drop 1 c)
packet-on_first f [] some = absurd (omega (arith, some))
packet-on_first f (b ∷ bs) some = refl

pub packet-zeros_before : (n : ℕ) (c : List Buffer) → 0 < length c → packet_of (on_first (zeros_before n) c) ≡ replicate n 0 ++ packet_of c
packet-zeros_before n c some =
    packet-on_first (zeros_before n) c some ∙ append_assoc (replicate n 0) (first_of c).body (packet_of (drop 1 c))
    ∙ ap (λ (ys : List ℕ). replicate n 0 ++ ys) (sym (packet-first c some))

pub packet-cut_front : (n : ℕ) (c : List Buffer) → 0 < length c → n ≤ length (first_of c).body → packet_of (on_first (cut_front n) c) ≡ drop n (packet_of c)
packet-cut_front n c some fits =
    packet-on_first (cut_front n) c some ∙ sym (drop-append-le n (first_of c).body (packet_of (drop 1 c)) fits) ∙ ap (drop n) (sym (packet-first c some))

-- ---- at the last segment, the one of index i

packet-at-last : (i : ℕ) (c : List Buffer) → length c ≡ suc i → packet_of c ≡ packet_of (take i c) ++ (slice_index_or c i no_buffer).body
packet-at-last i [] e = absurd (omega (arith, e))
packet-at-last zero (b ∷ []) e = append-nil b.body
packet-at-last zero (b ∷ x ∷ xs) e = absurd (omega (arith, e))
packet-at-last (suc i) (b ∷ []) e = absurd (omega (arith, e))
packet-at-last (suc i) (b ∷ x ∷ xs) e =
    ap (λ (ys : List ℕ). b.body ++ ys) (packet-at-last i (x ∷ xs) (omega (arith, e)))
    ∙ sym (append_assoc b.body (packet_of (take i (x ∷ xs))) (slice_index_or (x ∷ xs) i no_buffer).body)

packet-set-last : (i : ℕ) (c : List Buffer) (new : Buffer) → length c ≡ suc i → packet_of (slice_set c i new) ≡ packet_of (take i c) ++ new.body
packet-set-last i [] new e = absurd (omega (arith, e))
packet-set-last zero (b ∷ []) new e = append-nil new.body
packet-set-last zero (b ∷ x ∷ xs) new e = absurd (omega (arith, e))
packet-set-last (suc i) (b ∷ []) new e = absurd (omega (arith, e))
packet-set-last (suc i) (b ∷ x ∷ xs) new e =
    ap (λ (ys : List ℕ). b.body ++ ys) (packet-set-last i (x ∷ xs) new (omega (arith, e)))
    ∙ sym (append_assoc b.body (packet_of (take i (x ∷ xs))) new.body)

abbrev front_of : List Buffer → List ℕ
front_of c = packet_of (take (length c - 1) c)

packet-last : (c : List Buffer) → 0 < length c → packet_of c ≡ front_of c ++ (last_of c).body
packet-last c some = packet-at-last (length c - 1) c (omega arith)

packet-on_last : (f : Buffer → Buffer) (c : List Buffer) → 0 < length c → packet_of (on_last f c) ≡ front_of c ++ (f (last_of c)).body
packet-on_last f c some = packet-set-last (length c - 1) c (f (last_of c)) (omega arith)

pub packet-zeros_behind : (n : ℕ) (c : List Buffer) → 0 < length c → packet_of (on_last (zeros_behind n) c) ≡ packet_of c ++ replicate n 0
packet-zeros_behind n c some =
    packet-on_last (zeros_behind n) c some ∙ sym (append_assoc (front_of c) (last_of c).body (replicate n 0))
    ∙ ap (λ (ys : List ℕ). ys ++ replicate n 0) (sym (packet-last c some))

take-behind : (a b : List ℕ) (n : ℕ) → n ≤ length b → a ++ take (length b - n) b ≡ take (length (a ++ b) - n) (a ++ b)
take-behind a b n fits =
    sym (take-append-add a b (length b - n)) ∙ ap (λ j. take j (a ++ b)) (omega (arith, length-append a b))

pub packet-cut_back : (n : ℕ) (c : List Buffer) → 0 < length c → n ≤ length (last_of c).body → packet_of (on_last (cut_back n) c) ≡ take (length (packet_of c) - n) (packet_of c)
packet-cut_back n c some fits =
    packet-on_last (cut_back n) c some ∙ take-behind (front_of c) (last_of c).body n fits
    ∙ ap (λ (ys : List ℕ). take (length ys - n) ys) (sym (packet-last c some))

-- ---- cut to a length

pub cut_to-here : (n : ℕ) (b : Buffer) (bs : List Buffer) → n ≤ length b.body → cut_to n (b ∷ bs) ≡ cut_back (length b.body - n) b ∷ []
cut_to-here n b bs few = rw (le-leb n (length b.body) few) refl

cut_to-later : (n : ℕ) (b : Buffer) (bs : List Buffer) → length b.body < n → cut_to n (b ∷ bs) ≡ b ∷ cut_to (n - length b.body) bs
cut_to-later n b bs more = rw (lt-leb n (length b.body) more) refl

pub packet-cut_to : (n : ℕ) (c : List Buffer) → n ≤ length (packet_of c) → packet_of (cut_to n c) ≡ take n (packet_of c)
packet-cut_to n [] fits = sym (take_all n [] (omega arith))
packet-cut_to n (x ∷ xs) fits =
    let k = length-append x.body (packet_of xs) in
    elim (cases_lt (length x.body) n) [
      | inl more ↦
          ap packet_of (cut_to-later n x xs more)
          ∙ ap (λ (ys : List ℕ). x.body ++ ys) (packet-cut_to (n - length x.body) xs (omega (arith, k)))
          ∙ sym (take-append-add x.body (packet_of xs) (n - length x.body))
          ∙ ap (λ j. take j (x.body ++ packet_of xs)) (omega arith)
      | inr few ↦
          ap packet_of (cut_to-here n x xs few) ∙ append-nil (take (length x.body - (length x.body - n)) x.body)
          ∙ ap (λ j. take j x.body) (omega arith) ∙ sym (take-append-le n x.body (packet_of xs) few)
    ]
