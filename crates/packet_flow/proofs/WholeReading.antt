-- A capture is read record by record.
use Rattle.std.proofs.Common.{Option, Some, None, true, false, cond, nat_lt, ◌==◌, length, take, drop, arith, length-append, ◌≡◌, ℕ, Bool, List, [], ◌∷◌, ◌++◌, Result, Ok, Err, refl, ◌∙◌, ap, sym, subst, append_assoc}
use Rattle.std.proofs.lemmas.List.{append-nil}
use Rattle.std.proofs.lemmas.Bool.Decides.{nat_tests}
use Rattle.capture_io.specs.declared.header.Place.{Place}
use Rattle.capture_io.specs.declared.header.RecordHead.{RecordHead}
use Rattle.capture_io.specs.declared.header.CaptureCause.TheVariants.{ShortRecord, ShortData}
use Rattle.capture_io.specs.declared.header.ReadStop.{ReadStop}
use Rattle.capture_io.specs.declared.header.ReadStop.TheVariants.{Fault, BadCapture, OutOfMemory}
use Rattle.capture_io.specs.Capture.{Rec, Rest, End, Bad, Large, Records, record_at, packet_at, head_of, limit_of, behind, first_place, StopsRecord}
use Rattle.packet_flow.specs.Reads.{ReadsAs, HasRead}

pub begun : (big : Bool) (bytes : List ℕ) → HasRead big bytes [] first_place bytes
begun big bytes rs rest all = (rs, refl, all)

next_of : (big : Bool) (place : Place) (left left' : List ℕ) (r : Rec) (rs : List Rec) (rest : Rest) → record_at big place left ≡ Ok (r, left')
    → Records big place left rs rest → (more : List Rec) × (rs ≡ r ∷ more) × Records big (behind place r) left' more rest
next_of big place left left' r [] rest here all = absurd (let no : Ok (r, left') ≡ Err rest = sym here ∙ all in cc)
next_of big place left left' r (r' ∷ rs) rest here all =
    let same : (r', all.0) ≡ (r, left') = (let e : Ok (r', all.0) ≡ Ok (r, left') = sym all.1 ∙ here in cc) in
    let one : r' ≡ r = ap (λ (p : Rec × List ℕ). p.0) same in
    let two : all.0 ≡ left' = ap (λ (p : Rec × List ℕ). p.1) same in
    (rs, ap (λ (x : Rec). x ∷ rs) one, subst (λ (x : Rec). Records big (behind place x) left' rs rest) one (subst (λ (l : List ℕ). Records big (behind place r') l rs rest) two all.2))

pub read_more : (big : Bool) (bytes : List ℕ) (so_far : List Rec) (place : Place) (left left' : List ℕ) (r : Rec) → HasRead big bytes so_far place left
    → record_at big place left ≡ Ok (r, left') → HasRead big bytes (so_far ++ r ∷ []) (behind place r) left'
read_more big bytes so_far place left left' r so here rs rest all =
    let before = so rs rest all in
    let now = next_of big place left left' r before.0 rest here before.2 in
    (now.0, before.1 ∙ ap (λ (l : List Rec). so_far ++ l) now.1 ∙ sym (append_assoc so_far (r ∷ []) now.0), now.2)

-- no record stands where reading stopped
last_of : (big : Bool) (place : Place) (left : List ℕ) (rs : List Rec) (rest stop : Rest) → record_at big place left ≡ Err stop
    → Records big place left rs rest → (rs ≡ []) × (rest ≡ stop)
last_of big place left [] rest stop here all = (refl, (let e : Err rest ≡ Err stop = sym all ∙ here in cc))
last_of big place left (r ∷ rs) rest stop here all = absurd (let no : Ok (r, all.0) ≡ Err stop = sym all.1 ∙ here in cc)

ended : (big : Bool) (bytes : List ℕ) (so_far : List Rec) (place : Place) (left : List ℕ) (stop : Rest) → HasRead big bytes so_far place left
    → record_at big place left ≡ Err stop → (rs : List Rec) (rest : Rest) → Records big first_place bytes rs rest → (rs ≡ so_far) × (rest ≡ stop)
ended big bytes so_far place left stop so here rs rest all =
    let before = so rs rest all in
    let last = last_of big place left before.0 rest stop here before.2 in
    (before.1 ∙ ap (λ (l : List Rec). so_far ++ l) last.0 ∙ append-nil so_far, last.1)

-- what a stop says of the whole capture
pub stopped : (big : Bool) (bytes : List ℕ) (so_far : List Rec) (place : Place) (left : List ℕ) (stop : ReadStop) → HasRead big bytes so_far place left
    → StopsRecord big place left stop → (rs : List Rec) (rest : Rest) → Records big first_place bytes rs rest → ReadsAs so_far stop rs rest
stopped big bytes so_far place left ReadStop.End so here rs rest all = ended big bytes so_far place left End so here rs rest all
stopped big bytes so_far place left (BadCapture at cause) so here rs rest all = ended big bytes so_far place left (Bad at cause) so here rs rest all
stopped big bytes so_far place left (ReadStop.TooLarge value) so here rs rest all = ended big bytes so_far place left (Large value) so here rs rest all
stopped big bytes so_far place left Fault so here rs rest all = let before = so rs rest all in (before.0, before.1)
stopped big bytes so_far place left OutOfMemory so here rs rest all = let before = so rs rest all in (before.0, before.1)

pub read_on : (big : Bool) (bytes left : List ℕ) (so_far others : List Rec) (place other : Place) → others ≡ so_far → other ≡ place
    → HasRead big bytes so_far place left → HasRead big bytes others other left
read_on big bytes left so_far others place other rs_is place_is so =
    subst (λ (l : List Rec). HasRead big bytes l other left) (sym rs_is) (subst (λ (p : Place). HasRead big bytes so_far p left) (sym place_is) so)

-- at the end no byte is left
by_test : {X : Type 0} (b : Bool) (e : Rest) (r : Result X Rest) → (e ≡ End → ⊥) → (r ≡ Err End → ⊥) → cond b (Err e) r ≡ Err End → ⊥
by_test true e r not_e not_r is = not_e (let same : Err e ≡ Err End = is in cc)
by_test false e r not_e not_r is = not_r is

packet_ends : (place : Place) (h : RecordHead) (bytes : List ℕ) (o : Option ℕ) → packet_at place h bytes o ≡ Err End → ⊥
packet_ends place h bytes (Some value) is = cc
packet_ends place h bytes None is =
    by_test (nat_lt (length bytes) h.captured) (Bad place.at ShortData)
    (Ok (record { sec = h.sec; frac = h.frac; orig = h.orig; packet = take h.captured bytes }, drop h.captured bytes)) (λ e. cc) (λ e. cc) is

no_bytes : (big : Bool) (place : Place) (bytes : List ℕ) → record_at big place bytes ≡ Err End → length bytes ≡ 0
no_bytes big place [] is = refl
no_bytes big place (b ∷ bytes) is =
    let some : (length (b ∷ bytes) == 0) ≡ false = grind (arith, nat_tests) in
    absurd (by_test (nat_lt (length (b ∷ bytes)) 16) (Bad place.at ShortRecord)
    (packet_at place (head_of big (take 16 (b ∷ bytes))) (drop 16 (b ∷ bytes)) (limit_of place.records (head_of big (take 16 (b ∷ bytes)))))
    (λ e. cc) (packet_ends place (head_of big (take 16 (b ∷ bytes))) (drop 16 (b ∷ bytes)) (limit_of place.records (head_of big (take 16 (b ∷ bytes))))) (rw some at is))

nothing_left : (bytes old new : List ℕ) → length old ≡ 0 → old ≡ bytes ++ new → new ≡ []
nothing_left bytes old [] none is = refl
nothing_left bytes old (b ∷ new) none is = absurd (omega (arith, ap length is, length-append bytes (b ∷ new)))

pub ended_source : (big : Bool) (place : Place) (old new : List ℕ) (stop : ReadStop) → stop ≡ ReadStop.End → StopsRecord big place old stop
    → (bytes : List ℕ) × (old ≡ bytes ++ new) → new ≡ []
ended_source big place old new ReadStop.End is stops taken = nothing_left taken.0 old new (no_bytes big place old stops) taken.1
ended_source big place old new (BadCapture at cause) is stops taken = cc
ended_source big place old new (ReadStop.TooLarge value) is stops taken = cc
ended_source big place old new Fault is stops taken = cc
ended_source big place old new OutOfMemory is stops taken = cc
