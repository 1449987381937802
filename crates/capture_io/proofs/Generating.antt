-- What a generator will give, while it is read.
use Rattle.std.proofs.Common.{◌≡◌, ℕ, suc, ◌+◌, ◌-◌, ◌<◌, ◌≤◌, false, List, [], ◌++◌, length, take, drop, refl, ap, sym, ◌∙◌, arith, append_assoc, length-take, length-drop}
use Rattle.std.proofs.lemmas.List.{drop_all, drop-take, take_all}
use Rattle.capture_io.specs.Capture.{record_bytes}
use Rattle.capture_io.specs.Generated.{drawn_length, generated_record, generated_records, state_after}
use Rattle.capture_io.proofs.Parts.{source_taken}

none_made : (i x : ℕ) → generated_records 0 i x ≡ []
unfolding generated_records
none_made i x = refl

one_made : (n i x : ℕ) → generated_records (suc n) i x ≡ record_bytes false (generated_record i x) ++ generated_records n (i + 1) (state_after (1 + drawn_length x) x)
unfolding generated_records
one_made n i x = refl

-- all of it was read
pub nothing_left : (at end count begun x : ℕ) (ready : List ℕ) → at ≡ end → begun ≡ count → drop at (take end ready) ++ generated_records (count - begun) begun x ≡ []
nothing_left at end count begun x ready read made =
    let none : count - begun ≡ 0 = omega (arith, made) in
    ap (λ (l : List ℕ). l ++ generated_records (count - begun) begun x) (drop_all at (take end ready) (omega (arith, read, length-take end ready)))
    ∙ ap (λ (n : ℕ). generated_records n begun x) none ∙ none_made begun x

-- the next record is made where all that was ready was read
pub next_ready : (at end count begun x length state : ℕ) (ready next : List ℕ) → end ≤ at → begun < count
    → take length next ≡ record_bytes false (generated_record begun x) → state ≡ state_after (1 + drawn_length x) x
    → drop 0 (take length next) ++ generated_records (count - (begun + 1)) (begun + 1) state ≡ drop at (take end ready) ++ generated_records (count - begun) begun x
next_ready at end count begun x length state ready next read some made behind =
    let n = count - (begun + 1) in
    let more : suc n ≡ count - begun = omega (arith, some) in
    ap (λ (l : List ℕ). l ++ generated_records n (begun + 1) state) made ∙ ap (λ (y : ℕ). record_bytes false (generated_record begun x) ++ generated_records n (begun + 1) y) behind
    ∙ sym (one_made n begun x) ∙ ap (λ (k : ℕ). generated_records k begun x) more
    ∙ ap (λ (l : List ℕ). l ++ generated_records (count - begun) begun x) (sym (drop_all at (take end ready) (omega (arith, read, length-take end ready))))

-- the first n bytes of what is ready were read
pub part_read : (at end n : ℕ) (ready part rest later : List ℕ) → at ≤ end → end ≤ length ready → n ≤ end - at → part ≡ take n (take (end - at) (drop at ready))
    → drop at (take end ready) ++ later ≡ take n (part ++ rest) ++ (drop (at + n) (take end ready) ++ later)
part_read at end n ready part rest later read within fits copied =
    let k = end - at in
    let bytes = take end ready in
    let count : length bytes ≡ end = omega (arith, within, length-take end ready) in
    let upto : end ≡ at + k = omega (arith, read) in
    let same : drop at bytes ≡ take k (drop at ready) = ap (λ (m : ℕ). drop at (take m ready)) upto ∙ drop-take at k ready in
    let all : take k (drop at bytes) ≡ drop at bytes = take_all k (drop at bytes) (omega (arith, count, length-drop at bytes)) in
    ap (λ (l : List ℕ). l ++ later) (source_taken at n k bytes part rest (omega (arith, count, upto)) (omega (arith, count, read, fits)) (copied ∙ ap (take n) (sym (all ∙ same))))
    ∙ append_assoc (take n (part ++ rest)) (drop (at + n) bytes) later
