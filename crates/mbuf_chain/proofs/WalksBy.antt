-- A walk over a range that works a function of lists: the first bytes of the range, worked, lie in the chain.
use Rattle.std.proofs.Common.{◌≡◌, ℕ, ◌+◌, ◌-◌, ◌<◌, ◌≤◌, List, [], ◌++◌, length, take, drop, sym, ap, subst, ◌∙◌, arith, length-append}
use Rattle.std.proofs.Math.Seq.{take-add}
use Rattle.seg_list.specs.Buffer.{Buffer}
use Rattle.crypto_model.specs.Chain.{laid_at}
use Rattle.seg_list.proofs.Laid.{laid_at-again}
use Rattle.crypto_model.proofs.Laid.{length-laid_at}
use Rattle.mbuf_chain.specs.Chain.{packet_of, with_packet}
use Rattle.mbuf_chain.proofs.Chains.{packet_of-with_packet, with_packet-again}
use Rattle.mbuf_chain.specs.Piece.{piece_len, piece_laid}
use Rattle.mbuf_chain.proofs.Walks.{Walked, walked-begin, walked-length, walked-on, walked-reads}

abbrev pub range_at : ℕ → List Buffer → List ℕ
range_at off c = drop off (packet_of c)

pub record WalkedBy (f : List ℕ → List ℕ) (c0 : List Buffer) (off len done : ℕ) (c : List Buffer) : Type 0 where
  pub walked : Walked c0 off (f (take done (range_at off c0))) c
  pub size : length (f (take done (range_at off c0))) ≡ done
  pub within : done ≤ len
  pub fits : off + len ≤ length (packet_of c0)

pub by-begin : (f : List ℕ → List ℕ) (c : List Buffer) (off len : ℕ) → f [] ≡ [] → off + len ≤ length (packet_of c) → WalkedBy f c off len 0 c
by-begin f c off len e fits = record {
  walked = subst (λ u. Walked c off u c) (sym e) (walked-begin c off (omega arith));
  size = ap length e;
  within = omega arith;
  fits = fits;
}

pub by-room : (f : List ℕ → List ℕ) (c0 : List Buffer) (off len done : ℕ) (c : List Buffer) → WalkedBy f c0 off len done c → off + len ≤ length (packet_of c)
by-room f c0 off len done c h = let e = walked-length c0 off _ c h.walked in let g = h.fits in omega arith

-- what is read behind done is the range's
pub by-reads : (f : List ℕ → List ℕ) (c0 : List Buffer) (off len done k : ℕ) (r : List ℕ) (c : List Buffer) → WalkedBy f c0 off len done c
    → r ≡ take k (drop (off + done) (packet_of c)) → r ≡ take k (drop done (range_at off c0))
by-reads f c0 off len done k r c h is = is ∙ walked-reads c0 off k done _ c h.walked h.size

-- the text with a piece more
pub by-more : (f : List ℕ → List ℕ) (c0 : List Buffer) (off len done k : ℕ) (r w : List ℕ) (c : List Buffer) → WalkedBy f c0 off len done c
    → r ≡ take k (drop (off + done) (packet_of c)) → f (take done (range_at off c0) ++ r) ≡ f (take done (range_at off c0)) ++ w
    → f (take (done + k) (range_at off c0)) ≡ f (take done (range_at off c0)) ++ w
by-more f c0 off len done k r w c h is works =
    ap f (take-add done k (range_at off c0) ∙ ap (λ ys. take done (range_at off c0) ++ ys) (sym (by-reads f c0 off len done k r c h is))) ∙ works

-- the lent piece of n bytes behind done was worked
pub by-piece : (f : List ℕ → List ℕ) (c0 : List Buffer) (off len done m n : ℕ) (r w : List ℕ) (c : List Buffer) → WalkedBy f c0 off len done c → done < len
    → r ≡ take n (drop (off + done) (packet_of c)) → n ≡ piece_len (off + done) m c → n ≤ len - done → length w ≡ n
    → f (take done (range_at off c0) ++ r) ≡ f (take done (range_at off c0)) ++ w
    → WalkedBy f c0 off len (done + n) (piece_laid (off + done) c w)
by-piece f c0 off len done m n r w c h more is k few long works =
    let v = by-more f c0 off len done n r w c h is works in
    let fits = h.fits in
    record {
      walked = walked-on c0 off m done (f (take done (range_at off c0))) w (f (take (done + n) (range_at off c0))) c h.walked h.size (omega arith) (long ∙ k) v;
      size = ap length v ∙ length-append (f (take done (range_at off c0))) w ∙ omega (arith, h.size);
      within = omega arith;
      fits = fits;
    }

-- bytes were written behind done
pub by-written : (f : List ℕ → List ℕ) (c0 : List Buffer) (off len done n : ℕ) (r w : List ℕ) (c d : List Buffer) → WalkedBy f c0 off len done c
    → r ≡ take n (drop (off + done) (packet_of c)) → n ≤ len - done → length w ≡ n → done ≤ len
    → f (take done (range_at off c0) ++ r) ≡ f (take done (range_at off c0)) ++ w
    → d ≡ with_packet c (laid_at (off + done) w (packet_of c))
    → WalkedBy f c0 off len (done + n) d
by-written f c0 off len done n r w c d h is few long within works new =
    let p = packet_of c0 in
    let u = f (take done (range_at off c0)) in
    let v = by-more f c0 off len done n r w c h is works in
    let fits = h.fits in
    let at : off + done ≡ off + length u = ap (λ k. off + k) (sym h.size) in
    let all = length-append u w in
    let size = h.size in
    let now : packet_of c ≡ laid_at off u p = ap packet_of h.walked.is ∙ packet_of-with_packet c0 (laid_at off u p) (length-laid_at off u p) in
    let e : d ≡ with_packet c0 (laid_at off (u ++ w) p) =
    new ∙ ap (λ k. with_packet c (laid_at k w (packet_of c))) at
    ∙ ap (λ ys. with_packet c (laid_at (off + length u) w ys)) now
    ∙ ap (λ ys. with_packet c ys) (laid_at-again off u w p (omega arith))
    ∙ ap (λ x. with_packet x (laid_at off (u ++ w) p)) h.walked.is
    ∙ with_packet-again c0 (laid_at off u p) (laid_at off (u ++ w) p) (length-laid_at off u p) in
    record {
      walked = subst (λ ys. Walked c0 off ys d) (sym v) (record { fits = omega arith; is = e });
      size = ap length v ∙ all ∙ omega arith;
      within = omega arith;
      fits = fits;
    }

pub by-end : (f : List ℕ → List ℕ) (c0 : List Buffer) (off len done : ℕ) (c : List Buffer) → WalkedBy f c0 off len done c → len ≤ done
    → c ≡ with_packet c0 (laid_at off (f (take len (range_at off c0))) (packet_of c0))
by-end f c0 off len done c h past =
    let e : done ≡ len = omega (arith, h.within) in
    h.walked.is ∙ ap (λ n. with_packet c0 (laid_at off (f (take n (range_at off c0))) (packet_of c0))) e
