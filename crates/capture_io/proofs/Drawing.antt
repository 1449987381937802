-- Bytes that are drawn one after another.
use Rattle.std.proofs.Common.{◌≡◌, ℕ, zero, suc, ◌+◌, ◌-◌, ◌*◌, ◌/◌, ◌%◌, ◌<◌, ◌≤◌, false, List, [], ◌∷◌, ◌++◌, length, map, set, take, drop, refl, ap, sym, ◌∙◌, arith, length-append, length-take, length-drop}
use Rattle.std.proofs.Math.Seq.{take-append_seam, take-suc-set}
use Rattle.std.proofs.lemmas.List.{map-append, take_all}
use borrow.Rule.Slice.PartMut.{mid_of, post_of, put_mid}
use Rattle.capture_io.specs.Capture.{record_bytes, spelled}
use Rattle.capture_io.specs.Generated.{drawn_bytes, drawn_length, draws, generated_packet, generated_record, given, next_state, state_after}
use Rattle.capture_io.proofs.Parts.{take-filled}

pub no_draws : (x : ℕ) → draws 0 x ≡ []
unfolding draws
no_draws x = refl

pub before_draws : (x : ℕ) → state_after 0 x ≡ x
unfolding state_after
before_draws x = refl

pub one_more_state : (n x : ℕ) → state_after (suc n) x ≡ next_state (state_after n x)
unfolding state_after
one_more_state zero x = refl
one_more_state (suc n) x = one_more_state n (next_state x)

one_more_draw : (n x : ℕ) → draws (suc n) x ≡ draws n x ++ given (state_after n x) ∷ []
unfolding draws state_after
one_more_draw zero x = refl
one_more_draw (suc n) x = ap (λ (l : List ℕ). given x ∷ l) (one_more_draw n (next_state x))

-- one byte more is drawn
pub one_more_byte : (i x b : ℕ) (bytes : List ℕ) → i < length bytes → take i bytes ≡ drawn_bytes i x → b ≡ given (state_after i x) % 256
    → take (i + 1) (set bytes i b) ≡ drawn_bytes (i + 1) x
one_more_byte i x b bytes inside before is =
    let next : i + 1 ≡ suc i = omega arith in
    let low = λ (v : ℕ). v % 256 in
    ap (λ (n : ℕ). take n (set bytes i b)) next ∙ take-suc-set bytes i b inside ∙ ap (λ (l : List ℕ). l ++ b ∷ []) before
    ∙ ap (λ (v : ℕ). drawn_bytes i x ++ v ∷ []) is ∙ sym (map-append low (draws i x) (given (state_after i x) ∷ []))
    ∙ ap (map low) (sym (one_more_draw i x)) ∙ ap (λ (n : ℕ). drawn_bytes n x) (sym next)

at_once : (n x : ℕ) → state_after (suc n) x ≡ state_after n (next_state x)
unfolding state_after
at_once n x = refl

-- the state behind the first of some draws
pub first_draw : (n x : ℕ) → state_after (1 + n) x ≡ state_after n (next_state x)
first_draw n x =
    let next : 1 + n ≡ suc n = omega arith in
    ap (λ (k : ℕ). state_after k x) next ∙ at_once n x

-- a record's words and packet, behind one another in a buffer
pub record_spelled : (i x len k : ℕ) (words packet rest : List ℕ) → length words ≡ 16 → length packet ≡ len → len ≡ drawn_length x
    → words ≡ spelled false 4 (i / 1000) ++ spelled false 4 (i % 1000 * 1000) ++ spelled false 4 len ++ spelled false 4 len
    → packet ≡ generated_packet i x
    → take (16 + len) (put_mid 16 k (words ++ rest) packet) ≡ record_bytes false (generated_record i x)
record_spelled i x len k words packet rest size count len_is spells drawn =
    let old = words ++ rest in
    let front : take 16 old ≡ words = ap (λ (n : ℕ). take n old) (sym size) ∙ take-append_seam words rest in
    let whole : take len packet ≡ packet = take_all len packet (omega (arith, count)) in
    let captured : len ≡ length (generated_packet i x) = sym count ∙ ap length drawn in
    let two = spelled false 4 (i / 1000) ++ spelled false 4 (i % 1000 * 1000) in
    take-filled 16 len k old packet (omega (arith, length-append words rest, size)) (omega (arith, count))
    ∙ ap (λ (l : List ℕ). l ++ take len packet) (front ∙ spells)
    ∙ ap (λ (l : List ℕ). two ++ spelled false 4 len ++ spelled false 4 len ++ l) (whole ∙ drawn)
    ∙ ap (λ (n : ℕ). two ++ spelled false 4 n ++ spelled false 4 len ++ generated_packet i x) captured
    ∙ ap (λ (n : ℕ). two ++ spelled false 4 (length (generated_packet i x)) ++ spelled false 4 n ++ generated_packet i x) len_is

-- the part behind a record's words
pub part_length : (len : ℕ) (words ready : List ℕ) → length words ≡ 16 → length ready ≡ 1530 → len ≤ 1514
    → length (mid_of 16 (16 + len - 16) (words ++ post_of 0 16 ready)) ≡ len
part_length len words ready size whole fits =
    let n : 16 + len - 16 ≡ len = omega arith in
    let behind : length (post_of 0 16 ready) ≡ 1514 = omega (arith, whole, length-drop 16 ready) in
    let all : length (words ++ post_of 0 16 ready) ≡ 1530 = omega (arith, length-append words (post_of 0 16 ready), size, behind) in
    omega (arith, n, all, fits, length-take (16 + len - 16) (drop 16 (words ++ post_of 0 16 ready)), length-drop 16 (words ++ post_of 0 16 ready))
