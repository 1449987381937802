-- A walk over a range by pieces: c is c0 with u laid over its packet from off on.
use Rattle.std.proofs.Common.{◌≡◌, ℕ, ◌+◌, ◌<◌, ◌≤◌, List, [], ◌++◌, length, take, drop, sym, ap, subst, ◌∙◌, arith, length-append, length-drop, suc}
use Rattle.std.proofs.Math.Seq.{drop-append_seam, take-add}
use Rattle.std.proofs.lemmas.Slice.{take-put_mid}
use borrow.Rule.Slice.PartMut.{put_mid}
use Rattle.std.proofs.lemmas.List.{length-take-le, take_all, drop-drop, take-append-drop, take-append-le}
use Rattle.seg_list.specs.Buffer.{Buffer}
use Rattle.crypto_model.specs.Chain.{laid_at}
use Rattle.seg_list.proofs.Laid.{laid_at-again}
use Rattle.crypto_model.proofs.Laid.{laid_at-fits, length-laid_at}
use Rattle.mbuf_chain.specs.Chain.{packet_of, with_packet}
use Rattle.mbuf_chain.proofs.Chains.{packet_of-with_packet, with_packet-again, with_packet-own}
use Rattle.mbuf_chain.specs.Piece.{piece_len, piece_laid}
use Rattle.mbuf_chain.proofs.Pieces.{piece_laid-packet, piece_len-own, piece_len-most, packet-at}
use Rattle.mbuf_chain.specs.Piece.{LiesAt}

-- c is c0 but that u lies in its packet from off on
pub record Walked (c0 : List Buffer) (off : ℕ) (u : List ℕ) (c : List Buffer) : Type 0 where
  pub fits : off + length u ≤ length (packet_of c0)
  pub is : c ≡ with_packet c0 (laid_at off u (packet_of c0))

walked-packet : (c0 : List Buffer) (off : ℕ) (u : List ℕ) (c : List Buffer) → Walked c0 off u c → packet_of c ≡ laid_at off u (packet_of c0)
walked-packet c0 off u c h =
    ap packet_of h.is ∙ packet_of-with_packet c0 (laid_at off u (packet_of c0)) (length-laid_at off u (packet_of c0))

pub walked-length : (c0 : List Buffer) (off : ℕ) (u : List ℕ) (c : List Buffer) → Walked c0 off u c → length (packet_of c) ≡ length (packet_of c0)
walked-length c0 off u c h = ap length (walked-packet c0 off u c h) ∙ length-laid_at off u (packet_of c0)

-- it begins with nothing
pub walked-begin : (c : List Buffer) (off : ℕ) → off ≤ length (packet_of c) → Walked c off [] c
walked-begin c off inside =
    let e : laid_at off [] (packet_of c) ≡ packet_of c = ap (λ ys. take (length (packet_of c)) ys) (take-append-drop off (packet_of c)) ∙ take_all (length (packet_of c)) (packet_of c) (omega arith) in
    record { fits = omega (arith, inside); is = sym (ap (λ ys. with_packet c ys) e ∙ with_packet-own c) }

-- behind u the bytes are those of c0
pub walked-rest : (c0 : List Buffer) (off : ℕ) (u : List ℕ) (c : List Buffer) → Walked c0 off u c → drop (off + length u) (packet_of c) ≡ drop (length u) (drop off (packet_of c0))
walked-rest c0 off u c h =
    let p = packet_of c0 in
    let F = take off p ++ u in
    let R = drop (off + length u) p in
    let fits = h.fits in
    let n : off + length u ≡ length F = omega (arith, length-append (take off p) u, length-take-le off p (omega arith)) in
    ap (λ ys. drop (off + length u) ys) (walked-packet c0 off u c h ∙ laid_at-fits off u p fits)
    ∙ ap (λ k. drop k (F ++ R)) n ∙ drop-append_seam F R ∙ sym (drop-drop (length u) off p)

-- a piece of n bytes was lent behind u, and w was left in it
pub walked-next : (c0 : List Buffer) (off n : ℕ) (u w : List ℕ) (c : List Buffer) → Walked c0 off u c → off + length u < length (packet_of c0) → length w ≡ piece_len (off + length u) n c
    → Walked c0 off (u ++ w) (piece_laid (off + length u) c w)
walked-next c0 off n u w c h inside k =
    let p = packet_of c0 in
    let i = off + length u in
    let long = walked-length c0 off u c h in
    let own = piece_len-own c i n (length w) k in
    let most = piece_len-most c i (length w) (omega arith) in
    let first = most.0 in
    let all = length-append u w in
    record {
      fits = omega arith;
      is = piece_laid-packet c i w (omega arith) (omega arith)
          ∙ ap (λ ys. with_packet c (laid_at i w ys)) (walked-packet c0 off u c h)
          ∙ ap (λ ys. with_packet c ys) (laid_at-again off u w p (omega arith))
          ∙ ap (λ d. with_packet d (laid_at off (u ++ w) p)) h.is
          ∙ with_packet-again c0 (laid_at off u p) (laid_at off (u ++ w) p) (length-laid_at off u p);
    }

-- the same, at a count of the bytes so far, for v as u with w behind it
pub walked-on : (c0 : List Buffer) (off n done : ℕ) (u w v : List ℕ) (c : List Buffer) → Walked c0 off u c → length u ≡ done → off + done < length (packet_of c0) → length w ≡ piece_len (off + done) n c → v ≡ u ++ w
    → Walked c0 off v (piece_laid (off + done) c w)
walked-on c0 off n done u w v c h e inside k is =
    let N : ℕ → List ℕ → Type 0 = λ j ys. Walked c0 off ys (piece_laid (off + j) c w) in
    subst (N done) (sym is) (subst (λ j. N j (u ++ w)) e (walked-next c0 off n u w c h (rw e inside) (rw e k)))

-- what is lent is the range's
pub walked-reads : (c0 : List Buffer) (off k done : ℕ) (u : List ℕ) (c : List Buffer) → Walked c0 off u c → length u ≡ done → take k (drop (off + done) (packet_of c)) ≡ take k (drop done (drop off (packet_of c0)))
walked-reads c0 off k done u c h e = ap (λ ys. take k ys) (rw (sym e) (walked-rest c0 off u c h))

-- a part of segment i is copied behind the bytes that were read
pub read_on : (c : List Buffer) (off done i at n k : ℕ) (b : Buffer) (out w : List ℕ) → LiesAt c (off + done) i at b → take done out ≡ take done (drop off (packet_of c))
    → done ≤ length out → at + n ≤ length b.body → w ≡ take n (drop at b.body) → take (done + n) (put_mid done k out w) ≡ take (done + n) (drop off (packet_of c))
read_on c off done i at n k b out w h so_far within fits is =
    let m : length w ≡ n = ap length is ∙ length-take-le n (drop at b.body) (omega (arith, length-drop at b.body)) in
    take-put_mid done k out w (done + n) (omega arith) within
    ∙ ap (λ ys. ys ++ w) so_far
    ∙ ap (λ ys. take done (drop off (packet_of c)) ++ ys)
    (is ∙ sym (take-append-le n (drop at b.body) (packet_of (drop (suc i) c)) (omega (arith, length-drop at b.body)))
    ∙ ap (λ ys. take n ys) (sym (packet-at c (off + done) i at b h) ∙ sym (drop-drop done off (packet_of c))))
    ∙ sym (take-add done n (drop off (packet_of c)))
