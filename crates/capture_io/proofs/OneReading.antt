-- Each list of bytes has exactly one reading.
use Rattle.std.proofs.Common.{◌≡◌, ℕ, zero, suc, Bool, true, false, cond, ◌<◌, ◌≤◌, ◌==◌, List, [], ◌∷◌, length, take, drop, Option, Some, None, Result, Ok, Err, nat_lt, arith, refl, ◌∙◌, ap, sym, subst, length-drop}
use Rattle.std.proofs.lemmas.Bool.{ltb-false}
use Rattle.capture_io.specs.declared.header.Header.{Header}
use Rattle.capture_io.specs.declared.header.Place.{Place}
use Rattle.capture_io.specs.declared.header.RecordHead.{RecordHead}
use Rattle.capture_io.specs.declared.header.CaptureCause.{CaptureCause}
use Rattle.capture_io.specs.Capture.{Rec, Rest, Large, Reading, NoHeader, Holds, IsReading, Records, header_at, record_at, packet_at, head_of, limit_of, behind, first_place}

past : {X E : Type 0} (b : Bool) (e : E) (r : Result X E) (x : X) → cond b (Err e) r ≡ Ok x → (b ≡ false) × (r ≡ Ok x)
past true e r x is = absurd (let no : Err e ≡ Ok x = is in cc)
past false e r x is = (refl, is)

-- a record takes bytes
packet_shorter : (place : Place) (h : RecordHead) (bytes : List ℕ) (o : Option ℕ) (r : Rec) (more : List ℕ) → packet_at place h bytes o ≡ Ok (r, more) → length more ≤ length bytes
packet_shorter place h bytes (Some value) r more is = absurd (let no : Err (Large value) ≡ Ok (r, more) = is in cc)
packet_shorter place h bytes None r more is =
    let p = past (nat_lt (length bytes) h.captured) _ _ (r, more) is in
    let rec : Rec = record { sec = h.sec; frac = h.frac; orig = h.orig; packet = take h.captured bytes } in
    let both : (rec, drop h.captured bytes) ≡ (r, more) = (let e : Ok (rec, drop h.captured bytes) ≡ Ok (r, more) = p.1 in cc) in
    let same : drop h.captured bytes ≡ more = ap (λ (x : Rec × List ℕ). x.1) both in
    omega (arith, length-drop h.captured bytes, ap length same)

shorter : (big : Bool) (place : Place) (bytes : List ℕ) (r : Rec) (more : List ℕ) → record_at big place bytes ≡ Ok (r, more) → length more < length bytes
shorter big place bytes r more is =
    let one = past (length bytes == 0) _ _ (r, more) is in
    let two = past (nat_lt (length bytes) 16) _ _ (r, more) one.1 in
    let less = packet_shorter place (head_of big (take 16 bytes)) (drop 16 bytes) (limit_of place.records (head_of big (take 16 bytes))) r more two.1 in
    let long : 16 ≤ length bytes = ltb-false (length bytes) 16 two.0 in
    omega (arith, length-drop 16 bytes)

-- some records and some rest
abbrev Some_records : Bool → Place → List ℕ → Type 0
Some_records big place bytes = (rs : List Rec) × ((rest : Rest) × Records big place bytes rs rest)

exists_from : (fuel : ℕ) (big : Bool) → ((place : Place) (bytes : List ℕ) → length bytes < fuel → Some_records big place bytes)
    → (place : Place) (bytes : List ℕ) (r : Result (Rec × List ℕ) Rest) → length bytes < suc fuel → record_at big place bytes ≡ r → Some_records big place bytes
exists_from fuel big again place bytes (Err rest) less is = ([], (rest, is))
exists_from fuel big again place bytes (Ok x) less is =
    let more = again (behind place x.0) x.1 (let l = shorter big place bytes x.0 x.1 is in omega arith) in
    (x.0 ∷ more.0, (more.1.0, (x.1, is, more.1.1)))

exists_records : (fuel : ℕ) (big : Bool) (place : Place) (bytes : List ℕ) → length bytes < fuel → Some_records big place bytes
exists_records zero big place bytes less = absurd (omega arith)
exists_records (suc fuel) big place bytes less = exists_from fuel big (exists_records fuel big) place bytes (record_at big place bytes) less refl

exists_reading : (bytes : List ℕ) (r : Result (Header × List ℕ) (ℕ × CaptureCause)) → header_at bytes ≡ r → (reading : Reading) × IsReading bytes reading
exists_reading bytes (Err e) is = (NoHeader e.0 e.1, is)
exists_reading bytes (Ok x) is =
    let records = exists_records (suc (length x.1)) x.0.big first_place x.1 (omega arith) in
    (Holds x.0 records.0 records.1.0, (x.1, is, records.1.1))

pub some_reading : (bytes : List ℕ) → (reading : Reading) × IsReading bytes reading
some_reading bytes = exists_reading bytes (header_at bytes) refl

-- no others
same_records : (big : Bool) (place : Place) (bytes : List ℕ) (xs bs : List Rec) (p q : Rest) → Records big place bytes xs p → Records big place bytes bs q → (xs ≡ bs) × (p ≡ q)
same_records big place bytes [] [] p q one two = (refl, (let e : Err p ≡ Err q = sym one ∙ two in cc))
same_records big place bytes [] (b ∷ bs) p q one two = absurd (let e : Err p ≡ Ok (b, two.0) = sym one ∙ two.1 in cc)
same_records big place bytes (a ∷ xs) [] p q one two = absurd (let e : Ok (a, one.0) ≡ Err q = sym one.1 ∙ two in cc)
same_records big place bytes (a ∷ xs) (b ∷ bs) p q one two =
    let both : (b, two.0) ≡ (a, one.0) = (let e : Ok (b, two.0) ≡ Ok (a, one.0) = sym two.1 ∙ one.1 in cc) in
    let r_is : b ≡ a = ap (λ (x : Rec × List ℕ). x.0) both in
    let more_is : two.0 ≡ one.0 = ap (λ (x : Rec × List ℕ). x.1) both in
    let rest = subst (λ (l : List ℕ). Records big (behind place a) l bs q) more_is (subst (λ (r : Rec). Records big (behind place r) two.0 bs q) r_is two.2) in
    let others = same_records big (behind place a) one.0 xs bs p q one.2 rest in
    ((let r = sym r_is in let s = others.0 in cc), others.1)

pub only_reading : (bytes : List ℕ) (a b : Reading) → IsReading bytes a → IsReading bytes b → a ≡ b
only_reading bytes (NoHeader at cause) (NoHeader at' cause') one two =
    let both : (at, cause) ≡ (at', cause') = (let e : Err (at, cause) ≡ Err (at', cause') = sym one ∙ two in cc) in
    ap (λ (p : ℕ × CaptureCause). NoHeader p.0 p.1) both
only_reading bytes (NoHeader at cause) (Holds h rs rest) one two = absurd (let e : Err (at, cause) ≡ Ok (h, two.0) = sym one ∙ two.1 in cc)
only_reading bytes (Holds h rs rest) (NoHeader at cause) one two = absurd (let e : Ok (h, one.0) ≡ Err (at, cause) = sym one.1 ∙ two in cc)
only_reading bytes (Holds h rs rest) (Holds h' rs' rest') one two =
    let both : (h', two.0) ≡ (h, one.0) = (let e : Ok (h', two.0) ≡ Ok (h, one.0) = sym two.1 ∙ one.1 in cc) in
    let h_is : h' ≡ h = ap (λ (x : Header × List ℕ). x.0) both in
    let more_is : two.0 ≡ one.0 = ap (λ (x : Header × List ℕ). x.1) both in
    let rest_is = subst (λ (l : List ℕ). Records h.big first_place l rs' rest') more_is (subst (λ (x : Header). Records x.big first_place two.0 rs' rest') h_is two.2) in
    let same = same_records h.big first_place one.0 rs rs' rest rest' one.2 rest_is in
    let a = sym h_is in let b = same.0 in let c = same.1 in cc
