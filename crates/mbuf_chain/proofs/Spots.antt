-- A place in a chain that is walked: what lies there.
use Rattle.std.proofs.Common.{◌≡◌, ℕ, ◌+◌, ◌<◌, ◌≤◌, List, [], ◌∷◌, ◌++◌, length, take, drop, slice_set, slice_index_or, refl, sym, ap, ◌∙◌, arith, length-append}
use mathlib.Core.List.{append-nil}
use Rattle.std.proofs.lemmas.Grind.{flat_map-append}
use Rattle.std.proofs.Math.Seq.{drop-append-add}
use Rattle.seg_list.specs.Buffer.{Buffer, Walked, relaid_at}
use Rattle.mbuf_chain.specs.Chain.{packet_of}
use Rattle.mbuf_chain.specs.Cursors.{Stands, at_of}
use Rattle.mbuf_chain.specs.Piece.{LiesAt, piece_laid}
use Rattle.mbuf_chain.specs.Pieces.{joined, pieces_of}
use Rattle.mbuf_chain.proofs.Pieces.{piece_laid-at}
use Rattle.mbuf_chain.proofs.Ranges.{joined-pieces_of}
use Rattle.mbuf_chain.proofs.Splits.{get-behind, lies_behind}

packet-joined : (c d : List Buffer) → packet_of (c ++ d) ≡ packet_of c ++ packet_of d
packet-joined c d = flat_map-append (λ (b : Buffer). b.body) c d

-- where bytes are left, there is a first segment, and the place lies in it
first_of_rest : (done rest : List Buffer) (inside n : ℕ) → Stands rest inside → length (packet_of done) + inside + n ≤ length (packet_of (done ++ rest)) → 0 < n → 0 < length rest
first_of_rest done [] inside n stands fits some = absurd (omega (arith, fits, some, ap (λ (l : List Buffer). length (packet_of l)) (append-nil done)))
first_of_rest done (b ∷ bs) inside n stands fits some = omega arith

pub first_left : (w : Walked) (inside n : ℕ) → Stands w.rest inside → (at_of w inside).at + n ≤ length (packet_of (at_of w inside).chain) → 0 < n → 0 < length w.rest
first_left w inside n stands fits some = first_of_rest w.done w.rest inside n stands fits some

pub lies_first : (done rest : List Buffer) (inside : ℕ) (b : Buffer) → Stands rest inside → 0 < length rest → b ≡ slice_index_or rest 0 b
    → LiesAt (done ++ rest) (length (packet_of done) + inside) (length done) inside b
lies_first done [] inside b stands some is = absurd (omega (arith, some))
lies_first done (x ∷ xs) inside b stands some is = lies_behind done x xs (done ++ x ∷ xs) (length (packet_of done) + inside) (length done) inside b refl refl refl stands (get-behind done x xs b ∙ sym is)

set_first : (done rest : List Buffer) (d : Buffer) → slice_set (done ++ rest) (length done) d ≡ done ++ slice_set rest 0 d
set_first [] rest d = refl
set_first (x ∷ xs) rest d = ap (λ (l : List Buffer). x ∷ l) (set_first xs rest d)

-- what is written to the first segment is written there in the chain
pub laid_first : (done rest : List Buffer) (inside : ℕ) (b : Buffer) (bytes : List ℕ) → LiesAt (done ++ rest) (length (packet_of done) + inside) (length done) inside b
    → done ++ slice_set rest 0 (relaid_at inside b bytes) ≡ piece_laid (length (packet_of done) + inside) (done ++ rest) bytes
laid_first done rest inside b bytes h =
    sym (set_first done rest (relaid_at inside b bytes)) ∙ sym (piece_laid-at (done ++ rest) (length (packet_of done) + inside) (length done) inside b bytes h)

-- the pieces of the rest are the next bytes
pub joined_rest : (w : Walked) (inside n : ℕ) → (at_of w inside).at + n ≤ length (packet_of (at_of w inside).chain)
    → joined (pieces_of inside n w.rest) ≡ take n (drop (at_of w inside).at (packet_of (at_of w inside).chain))
joined_rest w inside n fits =
    let e = packet-joined w.done w.rest in
    joined-pieces_of inside n w.rest (omega (arith, fits, ap length e, length-append (packet_of w.done) (packet_of w.rest)))
    ∙ ap (take n) (sym (drop-append-add (packet_of w.done) (packet_of w.rest) inside) ∙ ap (drop (length (packet_of w.done) + inside)) (sym e))
