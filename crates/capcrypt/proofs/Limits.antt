-- A capture has fewer than 2 ^ 32 records, and so a run has fewer operations.
use Rattle.std.proofs.Common.{◌≡◌, ◌≢◌, ℕ, Bool, true, false, ◌+◌, ◌%◌, ◌==◌, ◌<◌, ◌≤◌, ◌^◌, take, drop, List, [], ◌∷◌, length, Option, None, Some, refl, ap, ◌∙◌, arith}
use Rattle.std.specs.Prelude.{Result, Ok, Err, nat_lt, if◌then◌else◌}
use Rattle.capture_io.specs.declared.header.Place.{Place}
use Rattle.capture_io.specs.declared.header.RecordHead.{RecordHead}
use Rattle.capture_io.specs.declared.header.CaptureCause.TheVariants.{ShortRecord}
use Rattle.capture_io.specs.Capture.{Rec, Rest, End, Bad, Records, behind, first_place, head_of, limit_of, packet_at}
use Rattle.dev_core.specs.declared.driver.LogEntry.{LogEntry}
use Rattle.session_file.specs.declared.plan.Plan.{Plan}
use Rattle.packet_flow.specs.Entries.{IsNumbered, entries_from}
use Rattle.packet_flow.proofs.Numbers.{length-entries_from}
use Rattle.sched_core.specs.Logged.{renumbered}

third : (a b c : Bool) (x y z : ℕ) → (if a then Some x else if b then Some y else if c then Some z else None) ≡ None → c ≡ false
third true b c x y z e = absurd (let no : Some x ≡ None = e in cc)
third false true c x y z e = absurd (let no : Some y ≡ None = e in cc)
third false false true x y z e = absurd (let no : Some z ≡ None = e in cc)
third false false false x y z e = refl

other : (n m : ℕ) → n == m ≡ false → n ≢ m
other n m e same = grind arith

below_limit : (n : ℕ) (h : RecordHead) → limit_of n h ≡ None → n ≢ 4294967295
below_limit n h e = other n 4294967295 (third (nat_lt 262144 h.captured) (nat_lt 4294967231 h.orig) (n == 4294967295) h.captured h.orig 4294967296 e)

not_limited : (place : Place) (h : RecordHead) (bytes : List ℕ) (l : Option ℕ) (x : Rec × List ℕ) → packet_at place h bytes l ≡ Ok x → l ≡ None
not_limited place h bytes (Some v) x e = absurd (let no : Err _ ≡ Ok x = e in cc)
not_limited place h bytes None x e = refl

last_of : {A E : Type 0} (b c : Bool) (e f : E) (r : Result A E) (x : A) → (if b then Err e else if c then Err f else r) ≡ Ok x → r ≡ Ok x
last_of true c e f r x is = absurd (let no : Err e ≡ Ok x = is in cc)
last_of false true e f r x is = absurd (let no : Err f ≡ Ok x = is in cc)
last_of false false e f r x is = is

few_from : (big : Bool) (place : Place) (bytes : List ℕ) (rs : List Rec) (rest : Rest) → place.records ≤ 4294967295 → Records big place bytes rs rest → place.records + length rs ≤ 4294967295
few_from big place bytes [] rest some e = omega (arith, some)
few_from big place bytes (r ∷ rs) rest some e =
    let h = head_of big (take 16 bytes) in
    let read = last_of (length bytes == 0) (nat_lt (length bytes) 16) End (Bad place.at ShortRecord) (packet_at place h (drop 16 bytes) (limit_of place.records h)) (r, e.0) e.1 in
    let less = below_limit place.records h (not_limited place h (drop 16 bytes) (limit_of place.records h) (r, e.0) read) in
    let next = few_from big (behind place r) e.0 rs rest (omega (arith, some, less)) e.2 in
    omega (arith, next)

-- the operations of a capture
pub few_operations : (plan : Plan) (big : Bool) (bytes : List ℕ) (rs : List Rec) (rest : Rest) → Records big first_place bytes rs rest → length (entries_from plan 0 rs) < 2 ^ 32
few_operations plan big bytes rs rest reads =
    let few = few_from big first_place bytes rs rest (omega arith) reads in
    omega (arith, length-entries_from plan 0 rs, few)

same_pos : (n : ℕ) (e : LogEntry) → e.pos ≡ n → n < 2 ^ 64 → record e { pos = n % 2 ^ 64 } ≡ e
same_pos n e is less = let m : n % 2 ^ 64 ≡ e.pos = omega (arith, is, less) in ap (λ (p : ℕ). record e { pos = p }) m

-- numbering them again changes nothing
pub numbered_again : (n : ℕ) (ops : List LogEntry) → IsNumbered n ops → n + length ops < 2 ^ 64 → renumbered n ops ≡ ops
numbered_again n [] is few = refl
numbered_again n (e ∷ es) is few =
    let own = same_pos n e is.0 (omega (arith, few)) in
    let others = numbered_again (n + 1) es is.1 (omega (arith, few)) in
    ap (λ (x : LogEntry). x ∷ renumbered (n + 1) es) own ∙ ap (λ (xs : List LogEntry). e ∷ xs) others
