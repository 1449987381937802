-- The operations of a capture, by their numbers.
use Rattle.std.proofs.Common.{◌≡◌, ◌≤◌, ◌+◌, ℕ, List, [], ◌∷◌, ◌++◌, length, refl, ap, sym, ◌∙◌, arith, add-zero, append_assoc, length-append}
use Rattle.std.proofs.lemmas.List.{append-nil}
use Rattle.crypto_model.specs.Process.{Input}
use Rattle.dev_core.specs.declared.driver.LogEntry.{LogEntry}
use Rattle.capture_io.specs.Capture.{Rec}
use Rattle.session_file.specs.declared.plan.Plan.{Plan}
use Rattle.packet_plan.specs.Asked.{Asked, Passes, TooShort, Works, asked, inputs_of}
use Rattle.packet_flow.specs.Entries.{IsNumbered, entries_from, entries_of, entry_for, inputs_from}

entries_of-numbered : (k : ℕ) (inputs : List Input) → IsNumbered k (entries_of k inputs)
unfolding entries_of
entries_of-numbered k [] = tt
entries_of-numbered k (input ∷ inputs) = (refl, entries_of-numbered (k + 1) inputs)

-- the operations of a capture are numbered without a gap
pub entries_from-numbered : (plan : Plan) (k : ℕ) (rs : List Rec) → IsNumbered k (entries_from plan k rs)
entries_from-numbered plan k rs = entries_of-numbered k (inputs_from plan 0 rs)

-- ---- at most one operation for each record

length-entries_of : (k : ℕ) (inputs : List Input) → length (entries_of k inputs) ≡ length inputs
unfolding entries_of
length-entries_of k [] = refl
length-entries_of k (input ∷ inputs) = omega (arith, length-entries_of (k + 1) inputs)

few_inputs : (a : Asked) → length (inputs_of a) ≤ 1
few_inputs Passes = omega arith
few_inputs TooShort = omega arith
few_inputs (Works card input) = omega arith

length-inputs_from : (plan : Plan) (n : ℕ) (rs : List Rec) → length (inputs_from plan n rs) ≤ length rs
unfolding inputs_from
length-inputs_from plan n [] = omega arith
length-inputs_from plan n (r ∷ rs) =
    let own = few_inputs (asked plan n r.packet) in
    omega (arith, own, length-inputs_from plan (n + 1) rs, length-append (inputs_of (asked plan n r.packet)) (inputs_from plan (n + 1) rs))

pub length-entries_from : (plan : Plan) (k : ℕ) (rs : List Rec) → length (entries_from plan k rs) ≤ length rs
length-entries_from plan k rs = omega (arith, length-entries_of k (inputs_from plan 0 rs), length-inputs_from plan 0 rs)

-- ---- records behind others

inputs_from-append : (plan : Plan) (n : ℕ) (rs more : List Rec) → inputs_from plan n (rs ++ more) ≡ inputs_from plan n rs ++ inputs_from plan (n + length rs) more
unfolding inputs_from
inputs_from-append plan n [] more = ap (λ (m : ℕ). inputs_from plan m more) (sym (add-zero n))
inputs_from-append plan n (r ∷ rs) more =
    let at : (n + 1) + length rs ≡ n + length (r ∷ rs) = omega arith in
    let own = inputs_of (asked plan n r.packet) in
    let behind = inputs_from-append plan (n + 1) rs more ∙ ap (λ (m : ℕ). inputs_from plan (n + 1) rs ++ inputs_from plan m more) at in
    ap (λ (l : List Input). own ++ l) behind ∙ sym (append_assoc own (inputs_from plan (n + 1) rs) (inputs_from plan (n + length (r ∷ rs)) more))

entries_of-append : (k : ℕ) (inputs more : List Input) → entries_of k (inputs ++ more) ≡ entries_of k inputs ++ entries_of (k + length inputs) more
unfolding entries_of
entries_of-append k [] more = ap (λ (m : ℕ). entries_of m more) (sym (add-zero k))
entries_of-append k (input ∷ inputs) more =
    let at : (k + 1) + length inputs ≡ k + length (input ∷ inputs) = omega arith in
    ap (λ (l : List LogEntry). entry_for k input ∷ l) (entries_of-append (k + 1) inputs more ∙ ap (λ (m : ℕ). entries_of (k + 1) inputs ++ entries_of m more) at)

-- the operations of records that stand behind others
abbrev pub entries_behind : Plan → List Rec → List Rec → List LogEntry
entries_behind plan rs more = entries_of (length (entries_from plan 0 rs)) (inputs_from plan (length rs) more)

pub entries_from-append : (plan : Plan) (rs more : List Rec) → entries_from plan 0 (rs ++ more) ≡ entries_from plan 0 rs ++ entries_behind plan rs more
entries_from-append plan rs more =
    let inputs = inputs_from plan 0 rs in
    let record_at : 0 + length rs ≡ length rs = omega arith in
    let at : 0 + length inputs ≡ length (entries_from plan 0 rs) = omega (arith, length-entries_of 0 inputs) in
    ap (entries_of 0) (inputs_from-append plan 0 rs more ∙ ap (λ (n : ℕ). inputs ++ inputs_from plan n more) record_at)
    ∙ entries_of-append 0 inputs (inputs_from plan (length rs) more)
    ∙ ap (λ (k : ℕ). entries_from plan 0 rs ++ entries_of k (inputs_from plan (length rs) more)) at

pub entries_behind-none : (plan : Plan) (rs : List Rec) → entries_behind plan rs [] ≡ []
unfolding entries_of inputs_from
entries_behind-none plan rs = refl

inputs_from-one : (plan : Plan) (n : ℕ) (r : Rec) → inputs_from plan n (r ∷ []) ≡ inputs_of (asked plan n r.packet)
unfolding inputs_from
inputs_from-one plan n r = append-nil (inputs_of (asked plan n r.packet))

pub entries_behind-one : (plan : Plan) (rs : List Rec) (r : Rec) (n i : ℕ) → n ≡ length rs → i ≡ length (entries_from plan 0 rs)
    → entries_behind plan rs (r ∷ []) ≡ entries_of i (inputs_of (asked plan n r.packet))
entries_behind-one plan rs r n i at made =
    ap (λ (k : ℕ). entries_of k (inputs_from plan (length rs) (r ∷ []))) (sym made) ∙ ap (λ (m : ℕ). entries_of i (inputs_from plan m (r ∷ []))) (sym at)
    ∙ ap (entries_of i) (inputs_from-one plan n r)

pub entries_of-none : (i : ℕ) → entries_of i [] ≡ []
unfolding entries_of
entries_of-none i = refl

pub entries_of-one : (i : ℕ) (input : Input) → entries_of i (input ∷ []) ≡ entry_for i input ∷ []
unfolding entries_of
entries_of-one i input = refl

pub entries_from-none : (plan : Plan) → entries_from plan 0 [] ≡ []
unfolding entries_of inputs_from
entries_from-none plan = refl
