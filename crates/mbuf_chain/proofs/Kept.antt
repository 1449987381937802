-- The length of a packet, kept through each change.
use Rattle.std.proofs.Common.{◌≡◌, ℕ, zero, suc, ◌+◌, ◌-◌, ◌*◌, ◌<◌, ◌≤◌, List, [], ◌∷◌, ◌++◌, length, take, drop, slice_set, slice_index_or, refl, sym, ap, ◌∙◌, arith, length-append, length-drop}
use Rattle.std.specs.List.{All}
use Rattle.std.proofs.lemmas.List.{length-take}
use Rattle.std.proofs.lemmas.List.Elements.{All-head, All-tail, All-set, All-get_or, All-append, All-push, All-take, All-cons}
use Rattle.std.proofs.lemmas.Grind.{flat_map-append}
use mathlib.Core.List.{append-nil}
use Rattle.seg_list.specs.Buffer.{Buffer, IsWhole, with_data, bytes_of, cut_at, relaid_at}
use Rattle.seg_list.specs.declared.list.TheConstants.{MAX_SEGS}
use Rattle.seg_list.specs.declared.seg.TheConstants.{SEG_SIZE}
use Rattle.crypto_model.specs.Chain.{laid_at}
use Rattle.crypto_model.proofs.Laid.{length-laid_at}
use Rattle.mbuf_chain.specs.Chain.{packet_of, with_packet}
use Rattle.mbuf_chain.proofs.Chains.{packet_of-with_packet}
use Rattle.mbuf_chain.specs.Kept.{IsKept}
use Rattle.mbuf_chain.proofs.Pieces.{length-bytes_of, body_laid}
use Rattle.mbuf_chain.specs.Piece.{LiesAt}

-- however the bytes of a buffer are cut, they are as many
pub whole_cut : (k j : ℕ) (xs : List ℕ) → length xs ≡ SEG_SIZE → IsWhole (cut_at k j xs)
whole_cut k j xs e =
    omega (arith, e, length-take k xs, length-drop k xs, length-take j (drop k xs), length-drop j (drop k xs))

pub whole_set : (k j : ℕ) (b : Buffer) → IsWhole b → IsWhole (cut_at k j (bytes_of b))
whole_set k j b whole = whole_cut k j (bytes_of b) (length-bytes_of b ∙ whole)

pub whole_laid : (at : ℕ) (b : Buffer) (w : List ℕ) → IsWhole b → IsWhole (relaid_at at b w)
whole_laid at b w whole =
    whole_cut (length b.before) (length b.body) (laid_at (length b.before + at) w (bytes_of b)) (length-laid_at (length b.before + at) w (bytes_of b) ∙ length-bytes_of b ∙ whole)

pub most_bytes : (c : List Buffer) → All IsWhole c → length (packet_of c) ≤ SEG_SIZE * length c
most_bytes [] h = omega arith
most_bytes (b ∷ bs) h =
    let k = most_bytes bs (All-tail IsWhole b bs h) in
    let w : length b.before + length b.body + length b.after ≡ SEG_SIZE = All-head IsWhole b bs h in
    omega (arith, k, w, length-append b.body (packet_of bs))

pub kept : (c : List Buffer) (len : ℕ) → 0 < length c → length c ≤ MAX_SEGS → All IsWhole c → len ≡ length (packet_of c) → IsKept c len
kept c len some most whole is = record { some = some; most = most; whole = whole; is = is; short = omega (arith, is, most, most_bytes c whole) }

-- the bytes with another segment in the place of number i
pub bytes_set : (c : List Buffer) (i : ℕ) (b d : Buffer) → i < length c → slice_index_or c i b ≡ b → length (packet_of (slice_set c i d)) + length b.body ≡ length (packet_of c) + length d.body
bytes_set [] i b d within is = absurd (omega arith)
bytes_set (x ∷ xs) zero b d within is = omega (arith, length-append x.body (packet_of xs), length-append d.body (packet_of xs), ap (λ (y : Buffer). length y.body) is)
bytes_set (x ∷ xs) (suc i) b d within is =
    omega (arith, bytes_set xs i b d (omega arith) is, length-append x.body (packet_of xs), length-append x.body (packet_of (slice_set xs i d)))

-- segment i has no more bytes than the packet
bytes_at : (c : List Buffer) (i : ℕ) (b : Buffer) → i < length c → slice_index_or c i b ≡ b → length b.body ≤ length (packet_of c)
bytes_at [] i b within is = absurd (omega arith)
bytes_at (x ∷ xs) zero b within is = omega (arith, length-append x.body (packet_of xs), ap (λ (y : Buffer). length y.body) is)
bytes_at (x ∷ xs) (suc i) b within is = omega (arith, bytes_at xs i b (omega arith) is, length-append x.body (packet_of xs))

length-set : (c : List Buffer) (i : ℕ) (d : Buffer) → length (slice_set c i d) ≡ length c
length-set [] i d = refl
length-set (x ∷ xs) zero d = refl
length-set (x ∷ xs) (suc i) d = ap suc (length-set xs i d)

pub kept_set : (c : List Buffer) (len new i : ℕ) (b d : Buffer) → IsKept c len → i < length c → slice_index_or c i b ≡ b → IsWhole d → new + length b.body ≡ len + length d.body
    → IsKept (slice_set c i d) new
kept_set c len new i b d h within is whole more =
    kept (slice_set c i d) new (omega (arith, length-set c i d, within)) (omega (arith, length-set c i d, h.most)) (All-set IsWhole c i d whole h.whole)
    (omega (arith, more, bytes_set c i b d within is, h.is))

-- segment i of a packet is whole
pub whole_at : (c : List Buffer) (len i : ℕ) (b : Buffer) → IsKept c len → i < length c → b ≡ slice_index_or c i b → IsWhole b
whole_at c len i b h within is = rw is (All-get_or IsWhole c i b within h.whole)

-- whatever is written to a piece
pub kept_laid : (c : List Buffer) (len off i at : ℕ) (b : Buffer) (w : List ℕ) → IsKept c len → LiesAt c off i at b → IsKept (slice_set c i (relaid_at at b w)) len
kept_laid c len off i at b w h lies =
    kept_set c len len i b (relaid_at at b w) h lies.within lies.buffer (whole_laid at b w (whole_at c len i b h lies.within (sym lies.buffer))) (omega (arith, body_laid at b w))

pub kept_joined : (c d : List Buffer) (n m : ℕ) → IsKept c n → IsKept d m → length c + length d ≤ MAX_SEGS → IsKept (c ++ d) (n + m)
kept_joined c d n m h k few =
    kept (c ++ d) (n + m) (omega (arith, length-append c d, h.some)) (omega (arith, length-append c d)) (All-append IsWhole c d h.whole k.whole)
    (omega (arith, h.is, k.is, length-append (packet_of c) (packet_of d)) ∙ ap length (sym (flat_map-append (λ (b : Buffer). b.body) c d)))

-- one segment more
pub one_more : (c : List Buffer) (n : ℕ) (b : Buffer) (m : ℕ) → n ≡ length (packet_of c) → All IsWhole c → m ≡ length b.body → IsWhole b
    → (n + m ≡ length (packet_of (c ++ b ∷ []))) × All IsWhole (c ++ b ∷ [])
one_more c n b m is h more whole = (
  omega (arith, is, more, length-append (packet_of c) (b.body ++ []), ap length (append-nil b.body)) ∙ ap length (sym (flat_map-append (λ (x : Buffer). x.body) c (b ∷ []))),
  All-push IsWhole c b h whole,
)

pub kept_pushed : (c : List Buffer) (n : ℕ) (b : Buffer) → IsKept c n → length c < MAX_SEGS → IsWhole b → IsKept (c ++ b ∷ []) (n + length b.body)
kept_pushed c n b h few whole =
    let e = one_more c n b (length b.body) h.is h.whole refl whole in
    kept (c ++ b ∷ []) (n + length b.body) (omega (arith, length-append c (b ∷ []))) (omega (arith, length-append c (b ∷ []))) e.1 e.0

-- n bytes more in segment i, whatever they are
pub kept_grown : (c : List Buffer) (len i k j n at : ℕ) (b x : Buffer) (w : List ℕ) → IsKept c len → i < length c → b ≡ slice_index_or c i b → x ≡ cut_at k j (bytes_of b)
    → length x.body ≡ length b.body + n → IsKept (slice_set c i (relaid_at at x w)) (len + n)
kept_grown c len i k j n at b x w h within is cut more =
    kept_set c len (len + n) i b (relaid_at at x w) h within (sym is) (whole_laid at x w (rw cut (whole_set k j b (whole_at c len i b h within is))))
    (omega (arith, body_laid at x w, more))

-- and n bytes fewer
pub kept_cut : (c : List Buffer) (len i k j n : ℕ) (b x : Buffer) → IsKept c len → i < length c → b ≡ slice_index_or c i b → x ≡ cut_at k j (bytes_of b)
    → length x.body + n ≡ length b.body → IsKept (slice_set c i x) (len - n)
kept_cut c len i k j n b x h within is cut fewer =
    kept_set c len (len - n) i b x h within (sym is) (rw cut (whole_set k j b (whole_at c len i b h within is)))
    (omega (arith, fewer, h.is, bytes_at c i b within (sym is)))

-- the first segments of a packet, with the last of them cut
pub kept_first : (c d : List Buffer) (len all i k j : ℕ) (b x : Buffer) → IsKept c all → d ≡ take (i + 1) c → 0 < length d → b ≡ slice_index_or d (length d - 1) b → x ≡ cut_at k j (bytes_of b)
    → len ≡ length (packet_of (slice_set d (length d - 1) x)) → IsKept (slice_set d (length d - 1) x) len
kept_first c d len all i k j b x h first some is cut size =
    let whole : All IsWhole d = rw first (All-take IsWhole (i + 1) c h.whole) in
    let last : IsWhole b = rw is (All-get_or IsWhole d (length d - 1) b (omega (arith, some)) whole) in
    let same = length-set d (length d - 1) x in
    kept (slice_set d (length d - 1) x) len (omega (arith, same, some)) (omega (arith, same, ap length first, length-take (i + 1) c, h.most))
    (All-set IsWhole d (length d - 1) x (rw cut (whole_set k j b last)) whole) size

length-with_packet : (c : List Buffer) (p : List ℕ) → length (with_packet c p) ≡ length c
length-with_packet [] p = refl
length-with_packet (b ∷ bs) p = ap suc (length-with_packet bs (drop (length b.body) p))

whole_with : (c : List Buffer) (p : List ℕ) → length p ≡ length (packet_of c) → All IsWhole c → All IsWhole (with_packet c p)
whole_with [] p e h = h
whole_with (b ∷ bs) p e h =
    let k = length-append b.body (packet_of bs) in
    let w : length b.before + length b.body + length b.after ≡ SEG_SIZE = All-head IsWhole b bs h in
    let same = length-take (length b.body) p in
    All-cons IsWhole (with_data b (take (length b.body) p)) (with_packet bs (drop (length b.body) p)) (omega (arith, w, same, e, k))
    (whole_with bs (drop (length b.body) p) (omega (arith, e, k, length-drop (length b.body) p)) (All-tail IsWhole b bs h))

-- another packet of this length in the same segments
pub kept_written : (c : List Buffer) (len : ℕ) (p : List ℕ) → IsKept c len → length p ≡ length (packet_of c) → IsKept (with_packet c p) len
kept_written c len p h e =
    let n = length-with_packet c p in
    kept (with_packet c p) len (omega (arith, n, h.some)) (omega (arith, n, h.most)) (whole_with c p e h.whole) (h.is ∙ sym e ∙ ap length (sym (packet_of-with_packet c p e)))
