-- Buffers that are filled, and pieces that are written, part by part.
use Rattle.std.proofs.Common.{◌≡◌, ℕ, ◌+◌, ◌≤◌, List, ◌∷◌, ◌++◌, length, take, drop, ◌<◌, arith, refl, ◌∙◌, ap, sym, append_assoc, length-take, length-drop, length-append}
use Rattle.std.proofs.lemmas.List.{take-append-le, take_all, take-append-drop, drop-drop}
use Rattle.std.proofs.Math.Seq.{take-add, take-append-add}
use Rattle.std.proofs.lemmas.Grind.{flat_map-append}
use Rattle.seg_list.specs.Buffer.{Buffer}
use Rattle.mbuf_chain.specs.Chain.{packet_of}
use Rattle.capture_io.specs.Pieces.{AppendsPart}
use borrow.Rule.Slice.PartMut.{put_mid, post_of}

-- n bytes more stand behind the first
pub take-filled : (at n k : ℕ) (old part : List ℕ) → at ≤ length old → n ≤ length part
    → take (at + n) (put_mid at k old part) ≡ take at old ++ take n part
take-filled at n k old part in_old in_part =
    let len : length (take at old) ≡ at = omega (arith, length-take at old) in
    ap (λ (m : ℕ). take (m + n) (put_mid at k old part)) (sym len) ∙ take-append-add (take at old) (part ++ post_of at k old) n
    ∙ ap (λ (l : List ℕ). take at old ++ l) (take-append-le n part (post_of at k old) in_part)

pub taken_more : (at n k : ℕ) (old part first mid last : List ℕ) → at ≤ length old → n ≤ length part
    → first ≡ take at old ++ mid → mid ≡ take n part ++ last
    → first ≡ take (at + n) (put_mid at k old part) ++ last
taken_more at n k old part first mid last in_old in_part before now =
    rw (take-filled at n k old part in_old in_part, append_assoc) (before ∙ ap (λ (l : List ℕ). take at old ++ l) now)

pub in_filled : (at n k : ℕ) (old part : List ℕ) → at ≤ length old → n ≤ length part → at + n ≤ length (put_mid at k old part)
in_filled at n k old part in_old in_part = simp (length-append, length-take) (omega arith)

-- a piece's slice from a place to its end
pub written_more : (at n k : ℕ) (piece first mid last : List ℕ) → length piece ≤ at + k → mid ≡ first ++ take at piece
    → last ≡ mid ++ take n (take k (drop at piece)) → last ≡ first ++ take (at + n) piece
written_more at n k piece first mid last whole before now =
    let all : take k (drop at piece) ≡ drop at piece = take_all k (drop at piece) (omega (arith, length-drop at piece)) in
    rw (take-add at n piece, ← append_assoc) (rw all at now ∙ ap (λ (l : List ℕ). l ++ take n (drop at piece)) before)

-- what was read so far and n bytes more, that are one too many
pub one_too_many : (limit n : ℕ) (text buf first mid last : List ℕ) → length text + n ≡ limit + 1 → n ≤ length buf → first ≡ text ++ mid → mid ≡ take n buf ++ last
    → (front : List ℕ) × (length front ≡ limit + 1) × (first ≡ front ++ last)
one_too_many limit n text buf first mid last over in_buf before now =
    (text ++ take n buf, omega (arith, length-append text (take n buf), length-take n buf), rw append_assoc (before ∙ ap (λ (l : List ℕ). text ++ l) now))

-- n bytes of a source in memory, copied to the front of a buffer
pub source_taken : (at n k : ℕ) (bytes part rest : List ℕ) → length bytes ≤ at + k → n + at ≤ length bytes
    → part ≡ take n (take k (drop at bytes)) → drop at bytes ≡ take n (part ++ rest) ++ drop (at + n) bytes
source_taken at n k bytes part rest whole fits copied =
    let all : take k (drop at bytes) ≡ drop at bytes = take_all k (drop at bytes) (omega (arith, length-drop at bytes)) in
    let is : part ≡ take n (drop at bytes) = rw all at copied in
    let len : length part ≡ n = ap length is ∙ omega (arith, length-take n (drop at bytes), length-drop at bytes) in
    let front : take n (part ++ rest) ≡ take n (drop at bytes) = take-append-le n part rest (omega arith) ∙ take_all n part (omega arith) ∙ is in
    rw (front, ← drop-drop n at bytes) (sym (take-append-drop n (drop at bytes)))

-- a part of the first of two pieces is a part of both
pub part_of_first : (n : ℕ) (whole a b old new : List ℕ) → a ++ b ≡ whole → n < length a → new ≡ old ++ take n a → AppendsPart old new whole
part_of_first n whole a b old new is less wrote =
    (n, omega (arith, length-append a b, ap length is), wrote ∙ ap (λ (l : List ℕ). old ++ l) (sym (take-append-le n a b (omega arith)) ∙ ap (take n) is))

-- a part of the second, behind the first
pub part_of_second : (n : ℕ) (whole a b old mid new : List ℕ) → a ++ b ≡ whole → mid ≡ old ++ a → n < length b → new ≡ mid ++ take n b → AppendsPart old new whole
part_of_second n whole a b old mid new is first less wrote =
    (length a + n, omega (arith, length-append a b, ap length is), wrote ∙ ap (λ (l : List ℕ). l ++ take n b) first ∙ append_assoc old a (take n b) ∙ ap (λ (l : List ℕ). old ++ l) (sym (take-append-add a b n) ∙ ap (take (length a + n)) is))

-- a part of one segment is a part of the packet, behind the segments before it
pub part_of_packet : (all before rest : List Buffer) (b : Buffer) (piece old mid new : List ℕ) → all ≡ before ++ b ∷ rest → piece ≡ b.body → mid ≡ old ++ packet_of before
    → AppendsPart mid new piece → AppendsPart old new (packet_of all)
part_of_packet all before rest b piece old mid new is lent first wrote =
    let whole : packet_of before ++ (b.body ++ packet_of rest) ≡ packet_of all = sym (flat_map-append (λ (x : Buffer). x.body) before (b ∷ rest)) ∙ ap packet_of (sym is) in
    let part = part_of_first wrote.0 (b.body ++ packet_of rest) b.body (packet_of rest) mid new refl (rw lent at wrote.1) (rw lent at wrote.2) in
    part_of_second part.0 (packet_of all) (packet_of before) (b.body ++ packet_of rest) old mid new whole first part.1 part.2
