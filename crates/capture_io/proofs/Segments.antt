-- Segments that are filled one after another.
use Rattle.std.proofs.Common.{◌≡◌, ℕ, ◌+◌, ◌-◌, ◌*◌, ◌/◌, ◌≤◌, List, [], ◌∷◌, ◌++◌, length, take, drop, replicate, refl, sym, ap, ◌∙◌, append_assoc, arith, length-append}
use mathlib.Core.List.{append-nil}
use Rattle.std.specs.List.{sum_by}
use Rattle.std.proofs.lemmas.List.{length-take, length-drop, map-append}
use Rattle.std.proofs.lemmas.List.Sums.{sum_by-cons, sum_by_push}
use Rattle.std.proofs.lemmas.List.Folds.{sum_by-replicate}
use Rattle.std.proofs.lemmas.Grind.{flat_map-append}
use Rattle.seg_list.specs.Buffer.{Buffer, IsWhole, cut_at}
use Rattle.mbuf_chain.specs.Chain.{packet_of, shape_of}
use Rattle.capture_io.specs.Filled.{filled_shape}
use Rattle.capture_io.specs.Capture.{StopsPacket}
use Rattle.capture_io.specs.declared.header.ReadStop.{ReadStop}
use Rattle.capture_io.specs.declared.header.ReadStop.TheVariants.{Fault, BadCapture, TooLarge, OutOfMemory}

-- the first len bytes of a whole buffer
pub cut_whole : (len : ℕ) (xs : List ℕ) (r : Buffer) → len ≤ 2048 → r ≡ cut_at 0 len xs → IsWhole r → (length r.before ≡ 0) × (length r.body ≡ len)
cut_whole len xs r fits is whole =
    let before : length r.before ≡ 0 = ap (λ (b : Buffer). length b.before) is in
    let body : length r.body ≡ length (take len xs) = ap (λ (b : Buffer). length b.body) is in
    let after : length r.after ≡ length (drop len xs) = ap (λ (b : Buffer). length b.after) is in
    (before, omega (arith, length-take len xs, length-drop len xs))

packet-pushed : (c : List Buffer) (b : Buffer) → packet_of (c ++ b ∷ []) ≡ packet_of c ++ b.body
packet-pushed c b = flat_map-append (λ (x : Buffer). x.body) c (b ∷ []) ∙ ap (λ (ys : List ℕ). packet_of c ++ ys) (append-nil b.body)

pub found_more : (old : List Buffer) (d : Buffer) (bytes more : List ℕ) → bytes ≡ d.body ++ more → packet_of old ++ bytes ≡ packet_of (old ++ d ∷ []) ++ more
found_more old d bytes more found =
    ap (λ (ys : List ℕ). packet_of old ++ ys) found ∙ sym (append_assoc (packet_of old) d.body more) ∙ ap (λ (ys : List ℕ). ys ++ more) (sym (packet-pushed old d))

pub shape_more : (old : List Buffer) (d : Buffer) (len : ℕ) → (length d.before ≡ 0) × (length d.body ≡ len) → shape_of (old ++ d ∷ []) ≡ shape_of old ++ (0, len) ∷ []
shape_more old d len is =
    map-append (λ (x : Buffer). (length x.before, length x.body)) old (d ∷ [])
    ∙ ap (λ n. shape_of old ++ (n, length d.body) ∷ []) is.0 ∙ ap (λ n. shape_of old ++ (0, n) ∷ []) is.1

abbrev bytes_in : List (ℕ × ℕ) → ℕ
bytes_in = sum_by (λ p. p.1)

length-packet_of : (c : List Buffer) → length (packet_of c) ≡ bytes_in (shape_of c)
length-packet_of [] = refl
length-packet_of (b ∷ bs) =
    length-append b.body (packet_of bs) ∙ ap (λ n. length b.body + n) (length-packet_of bs) ∙ sym (sum_by-cons (λ (p : ℕ × ℕ). p.1) (length b.before, length b.body) (shape_of bs))

full-bytes : (k : ℕ) → bytes_in (replicate k (0, 2048)) ≡ k * 2048
full-bytes k = sum_by-replicate (λ (p : ℕ × ℕ). p.1) k (0, 2048)

filled-bytes : (k n : ℕ) → bytes_in (replicate k (0, 2048) ++ (0, n) ∷ []) ≡ k * 2048 + n
filled-bytes k n = sum_by_push (λ (p : ℕ × ℕ). p.1) (replicate k (0, 2048)) (0, n) ∙ ap (λ m. m + n) (full-bytes k)

pub filled-length : (c : List Buffer) (n : ℕ) → shape_of c ≡ filled_shape n → length (packet_of c) ≡ n
filled-length c n is =
    let k = (n - 1) / 2048 in
    length-packet_of c ∙ ap bytes_in is ∙ filled-bytes k (n - 2048 * k) ∙ omega arith

-- all segments so far are full
pub full-length : (c : List Buffer) → shape_of c ≡ replicate (length c) (0, 2048) → length (packet_of c) ≡ length c * 2048
full-length c is = length-packet_of c ∙ ap bytes_in is ∙ full-bytes (length c)

-- a part that could not be read stops the whole
pub stops_whole : (n len at : ℕ) (got bytes old : List ℕ) (e : ReadStop) → old ≡ got ++ bytes → n + length got ≤ len → StopsPacket n at bytes e → StopsPacket len at old e
stops_whole n len at got bytes old ReadStop.End is fits stop = absurd stop
stops_whole n len at got bytes old Fault is fits stop = tt
stops_whole n len at got bytes old (BadCapture place cause) is fits stop = (stop.0, stop.1, omega (arith, stop.2, ap length is, length-append got bytes))
stops_whole n len at got bytes old (TooLarge value) is fits stop = absurd stop
stops_whole n len at got bytes old OutOfMemory is fits stop = tt
