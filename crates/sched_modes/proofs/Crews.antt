-- Workers as plain data.
use Rattle.std.proofs.Common.{◌≡◌, ◌⊎◌, ℕ, zero, suc, ◌+◌, ◌-◌, ◌^◌, ◌<◌, ◌≤◌, min, List, [], ◌∷◌, length, get_or, map, take, Option, inl, inr, refl, ap, ◌∙◌, sym, subst, arith, length-take, length-append}
use Rattle.std.specs.List.{sum_by}
use Rattle.std.proofs.lemmas.List.{get_or-map, get_or-take, length-map}
use Rattle.std.proofs.lemmas.List.Sums.{sum_by-cons}
use Rattle.crypto_model.specs.Counts.{capped, Rose}
use Rattle.dev_core.specs.declared.driver.Driver.{Ghosts}
use Rattle.dev_core.specs.declared.driver.LogEntry.{LogEntry}
use Rattle.sched_core.proofs.Dealt.{some_at}
use Rattle.sched_modes.specs.Crew.{Account, Crew, DealsOut, Places, Took, account, nobody, stalls_of, total, worker}
use Rattle.sched_modes.specs.Workers.{Serves, together}

-- the sum of the stalls
abbrev pub stalled : List Account → ℕ
stalled xs = sum_by (λ a. a.stalls) xs

rises : (xs ys : List Account) → length ys ≡ length xs → ((k : ℕ) → k < length xs → (get_or xs k nobody).stalls ≤ (get_or ys k nobody).stalls) → stalled xs ≤ stalled ys
rises [] [] l h = omega arith
rises [] (y ∷ ys) l h = absurd (omega (arith, l))
rises (x ∷ xs) [] l h = absurd (omega (arith, l))
rises (x ∷ xs) (y ∷ ys) l h =
    let r = rises xs ys (omega (arith, l)) (λ k i. h (suc k) (omega (arith, i))) in
    omega (arith, r, h 0 (omega arith), sum_by-cons (λ (a : Account). a.stalls) x xs, sum_by-cons (λ (a : Account). a.stalls) y ys)

rose_in : (xs ys : List Account) (t : ℕ) → length ys ≡ length xs → ((k : ℕ) → k < length xs → (get_or xs k nobody).stalls ≤ (get_or ys k nobody).stalls) → t < length xs → Rose (get_or xs t nobody).stalls (get_or ys t nobody).stalls → Rose (capped (stalled xs)) (capped (stalled ys))
rose_in [] ys t l h i r = absurd (omega (arith, i))
rose_in (x ∷ xs) [] t l h i r = absurd (omega (arith, l))
rose_in (x ∷ xs) (y ∷ ys) zero l h i r =
    let q : min (x.stalls + 1) (2 ^ 64 - 1) ≤ y.stalls = r in
    let m = rises xs ys (omega (arith, l)) (λ k j. h (suc k) (omega (arith, j))) in
    omega (arith, q, m, sum_by-cons (λ (a : Account). a.stalls) x xs, sum_by-cons (λ (a : Account). a.stalls) y ys)
rose_in (x ∷ xs) (y ∷ ys) (suc t) l h i r =
    let q : min (min (stalled xs) (2 ^ 64 - 1) + 1) (2 ^ 64 - 1) ≤ min (stalled ys) (2 ^ 64 - 1) = rose_in xs ys t (omega (arith, l)) (λ k j. h (suc k) (omega (arith, j))) (omega (arith, i)) r in
    omega (arith, q, h 0 (omega arith), sum_by-cons (λ (a : Account). a.stalls) x xs, sum_by-cons (λ (a : Account). a.stalls) y ys)

-- no call lets the stalls fall
pub stalls_rise : (parts : ℕ → List LogEntry) (n : ℕ) (old new : Crew) → DealsOut parts n old new → stalls_of old ≤ stalls_of new
stalls_rise parts n old new d = let r = rises old.workers new.workers d.len (λ k i. (d.each k i).stalls) in omega (arith, r)

-- where one worker stalled, the crew did
pub crew_stalls : (parts : ℕ → List LogEntry) (n : ℕ) (old new : Crew) (k : ℕ) → DealsOut parts n old new → k < length old.workers → Rose (worker old k).stalls (worker new k).stalls → Rose (stalls_of old) (stalls_of new)
crew_stalls parts n old new k d i r = rose_in old.workers new.workers k d.len (λ j l. (d.each j l).stalls) i r

pub worker_at : {C D : Type 0} (m : Ghosts D C) (w : ℕ) (devs : List D) (k : ℕ) (d : D) → k < w → w ≤ length devs → get_or (map (account m) (take w devs)) k nobody ≡ account m (get_or devs k d)
worker_at m w devs k d lt within = get_or-map (account m) (take w devs) k d nobody (omega (arith, length-take w devs, lt, within)) ∙ ap (account m) (get_or-take w devs k d lt)

pub count_workers : {C D : Type 0} (m : Ghosts D C) (w : ℕ) (devs : List D) → w ≤ length devs → length (map (account m) (take w devs)) ≡ w
count_workers m w devs within = omega (arith, length-map (take w devs) (account m), length-take w devs, within)

-- what holds of a device holds of its account
pub of_worker : {C D : Type 0} (m : Ghosts D C) (w : ℕ) (devs devs' : List D) (P : Account → Account → Type 0) (k : ℕ) → k < w → w ≤ length devs → length devs' ≡ length devs → ((d : D) → P (account m (get_or devs k d)) (account m (get_or devs' k d)))
    → P (get_or (map (account m) (take w devs)) k nobody) (get_or (map (account m) (take w devs')) k nobody)
of_worker m w devs devs' P k lt within len h =
    let d = (some_at devs k (omega (arith, lt, within))).0 in
    let within' : w ≤ length devs' = omega (arith, within, len) in
    subst (λ (a : Account). P a (get_or (map (account m) (take w devs')) k nobody)) (sym (worker_at m w devs k d lt within))
    (subst (P (account m (get_or devs k d))) (sym (worker_at m w devs' k d lt within')) (h d))

pub deals_out : {C D : Type 0} (m : Ghosts D C) (parts : ℕ → List LogEntry) (n w : ℕ) (devs devs' : List D) (t t' : ℕ) (o o' : Option Places) → w ≤ length devs → Serves m parts w devs devs' → total w (λ k. length (parts k)) ≡ n
    → DealsOut parts n (record { turn = t; workers = map (account m) (take w devs); ring = o }) (record { turn = t'; workers = map (account m) (take w devs'); ring = o' })
deals_out m parts n w devs devs' t t' o o' within s sum =
    let count = count_workers m w devs within in
    record {
      len = count_workers m w devs' (omega (arith, within, s.len)) ∙ sym count;
      each = λ k lt. of_worker m w devs devs' (Took (parts k)) k (omega (arith, lt, count)) within s.len (λ d. (s.each k d).took);
      sum = ap (λ (x : ℕ). total x (λ k. length (parts k))) count ∙ sum;
    }

any : {E : Type 0} (xs : List E) → (0 < length xs) ⊎ (length xs ≡ 0)
any [] = inr refl
any (x ∷ xs) = inl (omega arith)

-- one of them holds something, where they do together
pub some_holds : {C D : Type 0} (m : Ghosts D C) (w : ℕ) (devs : List D) → 0 < length (together m w devs) → (k : ℕ) × (k < w) × (k < length devs) × ((d : D) → 0 < length (m.held (get_or devs k d)))
some_holds m zero devs h = absurd (omega (arith, h))
some_holds m (suc w) [] h = absurd (omega (arith, h))
some_holds m (suc w) (x ∷ devs) h = elim (any (m.held x)) [
  | inl e ↦ (0, omega arith, omega arith, λ d. e)
  | inr n ↦
      let r = some_holds m w devs (omega (arith, h, length-append (m.held x) (together m w devs), n)) in
      let lt : r.0 < w = r.1 in let below : r.0 < length devs = r.2 in
      (suc r.0, omega (arith, lt), omega (arith, below), r.3)
]

-- none does, where no account does
pub none_holds : {C D : Type 0} (m : Ghosts D C) (w : ℕ) (devs : List D) → w ≤ length devs → ((k : ℕ) → k < w → (get_or (map (account m) (take w devs)) k nobody).held ≡ 0) → length (together m w devs) ≡ 0
none_holds m zero devs within h = refl
none_holds m (suc w) [] within h = absurd (omega (arith, within))
none_holds m (suc w) (x ∷ devs) within h =
    let first : length (m.held x) ≡ 0 = h 0 (omega arith) in
    let r = none_holds m w devs (omega (arith, within)) (λ k lt. h (suc k) (omega (arith, lt))) in
    omega (arith, first, r, length-append (m.held x) (together m w devs))
