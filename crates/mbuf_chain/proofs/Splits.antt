-- A chain, split at the segment that a search came to.
use Rattle.std.proofs.Common.{◌≡◌, ℕ, ◌+◌, ◌-◌, ◌<◌, List, [], ◌∷◌, ◌++◌, length, take, slice_set, slice_index_or, refl, sym, ap, ◌∙◌, arith, length-append}
use Rattle.std.proofs.Math.Seq.{take-append-add, take-append_seam, set-append_seam}
use Rattle.seg_list.specs.Buffer.{Buffer, bytes_of, cut_at}
use Rattle.mbuf_chain.specs.Chain.{packet_of}
use Rattle.mbuf_chain.specs.Ends.{cut_back, cut_to}
use Rattle.mbuf_chain.specs.Kept.{EndsIn}
use Rattle.mbuf_chain.proofs.EndCuts.{cut_back-is}
use Rattle.mbuf_chain.specs.Piece.{LiesAt}

pub get-behind : (front : List Buffer) (x : Buffer) (back : List Buffer) (d : Buffer) → slice_index_or (front ++ x ∷ back) (length front) d ≡ x
get-behind [] x back d = refl
get-behind (y ∷ ys) x back d = get-behind ys x back d

-- the byte at off lies in x
pub lies_behind : (front : List Buffer) (x : Buffer) (back c : List Buffer) (off i at : ℕ) (b : Buffer) → c ≡ front ++ x ∷ back → i ≡ length front → off ≡ length (packet_of front) + at
    → at < length x.body → slice_index_or c i b ≡ b → LiesAt c off i at b
lies_behind front x back c off i at b all count far inside is =
    let same : x ≡ b = sym (get-behind front x back b) ∙ sym (ap (λ (l : List Buffer). slice_index_or l (length front) b) all) ∙ sym (ap (λ k. slice_index_or c k b) count) ∙ is in
    let begin : take i c ≡ front = ap (λ k. take k c) count ∙ ap (take (length front)) all ∙ take-append_seam front (x ∷ back) in
    record {
      within = omega (arith, count, ap length all, length-append front (x ∷ back));
      far = omega (arith, far, ap (λ (l : List Buffer). length (packet_of l)) begin);
      buffer = is;
      inside = omega (arith, inside, ap (λ (y : Buffer). length y.body) same);
    }

-- the segment in which they end, cut there, is the last of those that are kept
pub cut_at_end : (c d : List Buffer) (len i n off : ℕ) (b x : Buffer) → EndsIn c len i n → d ≡ take (i + 1) c → b ≡ slice_index_or d (length d - 1) b → off ≡ length b.before
    → x ≡ cut_at off n (bytes_of b) → slice_set d (length d - 1) x ≡ cut_to len c
cut_at_end c d len i n off b x h kept last at set =
    let all : take (length h.front + 1) (h.front ++ h.here ∷ h.back) ≡ h.front ++ h.here ∷ [] = take-append-add h.front (h.here ∷ h.back) 1 in
    let is : d ≡ h.front ++ h.here ∷ [] = kept ∙ ap (λ k. take (k + 1) c) h.at ∙ ap (take (length h.front + 1)) h.is ∙ all in
    let k : length d - 1 ≡ length h.front = omega (arith, ap length is, length-append h.front (h.here ∷ [])) in
    let same : b ≡ h.here = last ∙ ap (λ j. slice_index_or d j b) k ∙ ap (λ (l : List Buffer). slice_index_or l (length h.front) b) is ∙ get-behind h.front h.here [] b in
    let m = length h.here.body - n in
    let inside = h.inside in
    let e : n ≡ length h.here.body - m = omega (arith, inside) in
    let new : x ≡ cut_back m h.here =
    set ∙ ap (λ j. cut_at j n (bytes_of b)) at ∙ ap (λ (y : Buffer). cut_at (length y.before) n (bytes_of y)) same
    ∙ ap (λ j. cut_at (length h.here.before) j (bytes_of h.here)) e ∙ cut_back-is m h.here (omega arith) in
    ap (λ j. slice_set d j x) k ∙ ap (λ (l : List Buffer). slice_set l (length h.front) x) is ∙ set-append_seam h.front h.here [] x
    ∙ ap (λ (y : Buffer). h.front ++ y ∷ []) new ∙ sym h.cut
