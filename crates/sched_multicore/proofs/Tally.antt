-- Sums over workers.
use Rattle.std.proofs.Common.{◌≡◌, ℕ, zero, suc, ◌+◌, ◌<◌, ◌≤◌, List, [], ◌∷◌, ◌++◌, length, refl, sym, ap, ◌∙◌, arith, Some}
use Rattle.std.specs.Prelude.{slice_set, slice_index_or, slice_get, replicate, map}
use Rattle.std.specs.List.{sum_by}
use native.Mathlib.Decide.{ℕ_discrete}
use Rattle.std.proofs.lemmas.List.{map-append}
use Rattle.std.proofs.lemmas.List.Sums.{sum_by-cons}
use Rattle.atomic_table.specs.Seated.{TableId}
use Rattle.flight_table.specs.Note.{BookData}
use Rattle.flight_table.specs.View.{times, new_hand}
use Rattle.flight_table.specs.Call.{Desk, desk, hands_of}
use Rattle.flight_table.proofs.Puts.{times_here, times_else}
use Rattle.sched_multicore.specs.Queue.{collected_of, total, key_of, keys_from, finished_of}

pub total_set : (ls : List ℕ) (w n : ℕ) → w < length ls → total (slice_set ls w n) + slice_index_or ls w 0 ≡ total ls + n
total_set [] w n lt = absurd (omega (arith, lt))
total_set (l ∷ ls) zero n lt = omega arith
total_set (l ∷ ls) (suc w) n lt = let e = total_set ls w n (omega (arith, lt)) in omega (arith, e)

pub total_none : (ls : List ℕ) → ((w : ℕ) → w < length ls → slice_index_or ls w 0 ≡ 0) → total ls ≡ 0
total_none [] h = refl
total_none (l ∷ ls) h =
    let z : l ≡ 0 = h 0 (omega arith) in
    let e = total_none ls (λ w lt. h (suc w) (omega (arith, lt))) in
    omega (arith, z, e)

collected_else : (l : List ℕ) (w n : ℕ) → n ≤ w → collected_of (w ∷ l) n ≡ collected_of l n
collected_else l w zero le = refl
collected_else l w (suc n) le =
    let e = collected_else l w n (omega (arith, le)) in
    let x = times_else w n l (λ s. omega (arith, s, le)) in
    omega (arith, e, x)

pub collected_more : (l : List ℕ) (w n : ℕ) → w < n → collected_of (w ∷ l) n ≡ collected_of l n + 1
collected_more l w zero lt = absurd (omega (arith, lt))
collected_more l w (suc n) lt = go (ℕ_discrete n w) (collected_more l w n)
  where
    go : Dec (n ≡ w) → (w < n → collected_of (w ∷ l) n ≡ collected_of l n + 1) → collected_of (w ∷ l) (suc n) ≡ collected_of l (suc n) + 1
    go (yes s) more =
        let e = collected_else l w n (omega (arith, s)) in
        let x : times n (w ∷ l) ≡ times w l + 1 = ap (λ z. times z (w ∷ l)) s ∙ times_here w l in
        let y : times n l ≡ times w l = ap (λ z. times z l) s in
        omega (arith, e, x, y)
    go (no ne) more =
        let e = more (omega (arith, lt, ne)) in
        let x = times_else w n l ne in
        omega (arith, e, x)

pub collected_none : (n : ℕ) → collected_of [] n ≡ 0
collected_none zero = refl
collected_none (suc n) = let e = collected_none n in omega (arith, e)

pub zeros_len : (n : ℕ) → length {A = ℕ} (replicate n 0) ≡ n
zeros_len zero = refl
zeros_len (suc n) = ap suc (zeros_len n)

pub zeros_at : (n w : ℕ) → ◌≡◌ {A = ℕ} (slice_index_or (replicate n 0) w 0) 0
zeros_at zero w = refl
zeros_at (suc n) zero = refl
zeros_at (suc n) (suc w) = zeros_at n w

-- Hands

pub key_at : (t : TableId) (hands : List Desk) (a n : ℕ) → map key_of hands ≡ keys_from t a n → (length hands ≡ n) × ((w : ℕ) (d : Desk) → slice_get hands w ≡ Some d → (d.table ≡ t) × (d.view.worker ≡ a + w))
key_at t [] a zero e = (refl, λ w d at. absurd (cc))
key_at t [] a (suc n) e = absurd (cc)
key_at t (d ∷ ds) a zero e = absurd (cc)
key_at t (d ∷ ds) a (suc n) e =
    let first : key_of d ≡ record { table = t; worker = a } = cc in
    let rest : map key_of ds ≡ keys_from t (suc a) n = cc in
    let more = key_at t ds (suc a) n rest in
    (ap suc more.0, λ w x at. one first more.1 w x at)
  where
    one : key_of d ≡ record { table = t; worker = a } → ((w : ℕ) (d : Desk) → slice_get ds w ≡ Some d → (d.table ≡ t) × (d.view.worker ≡ suc a + w)) → (w : ℕ) (x : Desk) → slice_get (d ∷ ds) w ≡ Some x → (x.table ≡ t) × (x.view.worker ≡ a + w)
    one first more zero x at =
        let s : d ≡ x = cc in
        let k : key_of x ≡ record { table = t; worker = a } = ap key_of (sym s) ∙ first in
        (ap (λ k. k.table) k, ap (λ k. k.worker) k ∙ omega arith)
    one first more (suc w) x at = let m = more w x at in (m.0, m.1 ∙ omega arith)

-- hands in the order of their workers, from a on
pub sum_hands : (l : List ℕ) (hands : List Desk) (a : ℕ) → ((w : ℕ) (d : Desk) → slice_get hands w ≡ Some d → d.view.finished ≡ times (a + w) l) → sum_by finished_of hands + collected_of l a ≡ collected_of l (a + length hands)
sum_hands l [] a h = let e : collected_of l a ≡ collected_of l (a + 0) = ap (λ z. collected_of l z) {x = a} {y = a + 0} (omega arith) in omega (arith, e)
sum_hands l (d ∷ ds) a h =
    let first : d.view.finished ≡ times a l = h 0 d refl ∙ ap (λ z. times z l) (omega arith) in
    let e = sum_hands l ds (suc a) (λ w x at. h (suc w) x at ∙ ap (λ z. times z l) {x = a + suc w} {y = suc a + w} (omega arith)) in
    let s = sum_by-cons finished_of d ds in
    let n : collected_of l (suc a + length ds) ≡ collected_of l (a + suc (length ds)) = ap (λ z. collected_of l z) {x = suc a + length ds} {y = a + suc (length ds)} (omega arith) in
    omega (arith, first, e, s, n)

keys_snoc : (t : TableId) (a n : ℕ) → keys_from t a (suc n) ≡ keys_from t a n ++ record { table = t; worker = a + n } ∷ []
keys_snoc t a zero = ap (λ (w : ℕ). record { table = t; worker = w } ∷ []) {x = a} {y = a + 0} (omega arith)
keys_snoc t a (suc n) = ap (λ l. record { table = t; worker = a } ∷ l) (keys_snoc t (suc a) n ∙ ap (λ (w : ℕ). keys_from t (suc a) n ++ record { table = t; worker = w } ∷ []) {x = suc a + n} {y = a + suc n} (omega arith))

-- the hands of a table that was opened
pub keys_of : (t : TableId) (n : ℕ) (about : BookData) (m : ℕ) → map key_of (hands_of t n about m) ≡ keys_from t 0 m
keys_of t n about zero = refl
keys_of t n about (suc m) =
    map-append key_of (hands_of t n about m) (desk t n (new_hand about m) ∷ [])
    ∙ ap (λ l. l ++ record { table = t; worker = m } ∷ []) (keys_of t n about m)
    ∙ ap (λ (w : ℕ). keys_from t 0 m ++ record { table = t; worker = w } ∷ []) {x = m} {y = 0 + m} (omega arith)
    ∙ sym (keys_snoc t 0 m)
