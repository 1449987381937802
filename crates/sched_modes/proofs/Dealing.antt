-- What a whole flow of calls gives the workers of a scheduler.
use Rattle.std.proofs.Common.{◌≡◌, ℕ, zero, suc, ◌+◌, ◌-◌, ◌<◌, ◌≤◌, ◌^◌, Bool, true, false, List, [], ◌∷◌, ◌++◌, length, get_or, take, drop, Option, None, Some, option_map, is_some, inl, inr, refl, ap, ◌∙◌, sym, subst, arith}
use Rattle.std.specs.Arc.{arc_value}
use Rattle.std.proofs.Math.Seq.{take-append_seam}
use Rattle.std.proofs.lemmas.Bool.{cases_lt}
use Rattle.std.proofs.lemmas.List.{append-nil}
use Rattle.crypto_model.specs.Counts.{Rose}
use Rattle.crypto_model.specs.Process.{Transform}
use Rattle.dev_core.specs.Calls.{Call, Ran}
use Rattle.dev_core.specs.Offers.{Flows, rest_of_burst, taken_by}
use Rattle.dev_core.specs.declared.driver.Driver.{Ghosts}
use Rattle.dev_core.specs.declared.driver.LogEntry.{LogEntry}
use Rattle.sched_core.specs.Logged.{renumbered}
use Rattle.sched_core.specs.Ring.{Ring}
use Rattle.sched_core.specs.Stopped.{Stopped}
use Rattle.sched_core.specs.declared.mode.Mode.{Mode}
use Rattle.sched_core.specs.declared.ring.Slot.{Slot}
use Rattle.sched_core.proofs.Dealt.{some_at}
use Rattle.sched_modes.specs.Crew.{Account, Does, IsEmptyRing, Places, Took, account, total, worker}
use Rattle.sched_modes.specs.Dealing.{AreUnused, HasDealt, HasTaken, IsFrontOf, IsUnused, NoneStalled, Stays, assigned}
use Rattle.sched_modes.specs.Running.{DoesCall, IsStarted, crew_of, first_places, mode_of, offers_by, pool_of, stopped_of}
use Rattle.sched_modes.specs.Workers.{ring_cap}
use Rattle.sched_modes.specs.declared.running.Running.{Running}
use Rattle.sched_modes.proofs.Bursts.{total_same}
use Rattle.sched_modes.proofs.Crews.{count_workers, worker_at}
use Rattle.sched_modes.proofs.Fair.{Leaves, leaves}
use Rattle.sched_modes.proofs.History.{Dealt, IsReady, IsRingAt, NoneRose, dealt}
use Rattle.sched_modes.proofs.NextBurst.{none_left, rest_within}

-- ---- the scheduler goes on

stays_two : {D : Type 0} (a b c : Stopped D) → Stays a b → Stays b c → Stays a c
stays_two {D} a b c p q =
    let workers : b.workers ≡ a.workers = ap (λ (s : Stopped D). s.workers) p.settings in
    record {
      settings = q.settings ∙ ap (λ (s : Stopped D). record s { devs = c.devs }) p.settings;
      count = q.count ∙ p.count;
      others = ap (λ (w : ℕ). drop w c.devs) (sym workers) ∙ (q.others ∙ (ap (λ (w : ℕ). drop w b.devs) workers ∙ p.others));
    }

ordering_kept : {C : Type 0} (a b : Option (Ring (Slot C))) → ring_cap b ≡ ring_cap a → is_some b ≡ is_some a
ordering_kept None None e = refl
ordering_kept None (Some b) e = absurd (let x : Some b.cap ≡ None = e in cc)
ordering_kept (Some a) None e = absurd (let x : None ≡ Some a.cap = e in cc)
ordering_kept (Some a) (Some b) e = refl

same_settings : {D : Type 0} (devs : List D) (m m' : Mode) (o o' : Bool) (t t' : ℕ) (s s' : List (List Transform)) (w w' : ℕ)
    → m' ≡ m → o' ≡ o → t' ≡ t → s' ≡ s → w' ≡ w
    → ◌≡◌ {A = Stopped D} (record { mode = m'; ordering = o'; threshold = t'; sessions = s'; devs = devs; workers = w' }) (record { mode = m; ordering = o; threshold = t; sessions = s; devs = devs; workers = w })
same_settings devs m m' o o' t t' s s' w w' a b c d e = rw (a, b, c, d, e) refl

stays_on : {C D : Type 0} {m : Ghosts D C} (old : Running C D m) (call : Call) (new : Running C D m) → DoesCall old call new
    → Stays (stopped_of old) (stopped_of new)
stays_on old call new d =
    let p = pool_of old in let q = pool_of new in let w = d.follows.went in
    record {
      settings = same_settings q.devs.items (mode_of old) (mode_of new) (is_some p.ring) (is_some q.ring) p.threshold q.threshold (arc_value p.sessions) (arc_value q.sessions) p.workers q.workers
          d.mode (ordering_kept p.ring q.ring w.cap) w.threshold (ap (λ s. arc_value s) w.sessions) w.workers;
      count = w.devs.len;
      others = w.devs.others;
    }

-- A history of calls is one of its crew, by its mode.
abbrev CrewDoes : {C D : Type 0} {m : Ghosts D C} → Stopped D → Running C D m → Call → Running C D m → Type 0
CrewDoes s old call new = Does (offers_by s.mode s.threshold) (crew_of old) call (crew_of new)

goes_on : {C D : Type 0} {m : Ghosts D C} (first : Running C D m) (past : List Call) (last : Running C D m)
    → Ran (λ (r : Running C D m) (c : Call) (q : Running C D m). DoesCall r c q) first past last
    → Stays (stopped_of first) (stopped_of last) × Ran (λ (r : Running C D m) (c : Call) (q : Running C D m). CrewDoes (stopped_of first) r c q) first past last
goes_on {m = m} first [] last ran =
    (subst (λ (r : Running _ _ m). Stays (stopped_of first) (stopped_of r)) (sym ran) (record { settings = refl; count = refl; others = refl }), ran)
goes_on {D = D} {m = m} first (c ∷ past) last ran =
    let mid = ran.0 in
    let so_far = goes_on first past mid ran.1 in
    let step = ran.2 in (
      stays_two (stopped_of first) (stopped_of mid) (stopped_of last) so_far.0 (stays_on mid c last step),
      (mid, so_far.1, subst (λ (s : Stopped D). CrewDoes s mid c last) so_far.0.settings step.crew),
    )

-- ---- one worker

logged : (x y : Option (List LogEntry)) (l : List LogEntry) → x ≡ option_map (λ l. []) x → y ≡ option_map (λ b. b ++ l) x → y ≡ option_map (λ b. l) x
logged None y l none is = is
logged (Some b) y l none is = is ∙ ap (option_map (λ (e : List LogEntry). e ++ l)) none

has_taken : (depth : ℕ) (l : List LogEntry) (x y : Account) → IsUnused depth x → Took l x y → length l < 2 ^ 64 - 1 → HasTaken l x y
has_taken depth l x y unused took few = record {
  enqueued = omega (arith, took.enqueued, unused.enqueued, few);
  log = logged x.log y.log l unused.log took.log;
}

-- ---- sums

part_within : (w : ℕ) (f : ℕ → ℕ) (k : ℕ) → k < w → f k ≤ total w f
part_within zero f k lt = absurd (omega (arith, lt))
part_within (suc w) f k lt = elim (cases_lt k w) [
  | inl less ↦ let r = part_within w f k less in omega (arith, r)
  | inr more ↦ let same : k ≡ w = omega (arith, lt, more) in omega (arith, ap f same)
]

-- ---- the whole flow

ring_begins : (size cap : ℕ) (ordering : Bool) (o : Option Places) → size ≤ cap → o ≡ first_places ordering cap → IsEmptyRing o × IsRingAt size 0 o
ring_begins size cap true o fits is = subst (λ (p : Option Places). IsEmptyRing p × IsRingAt size 0 p) (sym is) (refl, (fits, omega arith))
ring_begins size cap false o fits is = subst (λ (p : Option Places). IsEmptyRing p × IsRingAt size 0 p) (sym is) (tt, tt)

module _ {C D : Type 0} (m : Ghosts D C) (depth size : ℕ) (ops : List LogEntry) (past : List Call) (first last : Running C D m) (stays : Stays (stopped_of first) (stopped_of last)) (flows : Flows size ops past)
    (unused : AreUnused m depth (stopped_of first)) (l : Leaves (mode_of first) (pool_of first).threshold depth size) (h : Dealt depth size l.left ops past (crew_of first) (crew_of last)) where
  abbrev devs : List D
  devs = (pool_of first).devs.items

  abbrev devs_now : List D
  devs_now = (pool_of last).devs.items

  abbrev w : ℕ
  w = (pool_of first).workers

  within : w ≤ length devs
  within = let p = pool_of first in omega (arith, p.sizes.1, p.devs.ok.0)

  workers_kept : (pool_of last).workers ≡ w
  workers_kept = ap (λ (s : Stopped D). s.workers) stays.settings

  count : length (crew_of first).workers ≡ w
  count = count_workers m w devs within

  worker_first : (k : ℕ) (d : D) → k < w → worker (crew_of first) k ≡ account m (get_or devs k d)
  worker_first k d lt = worker_at m w devs k d lt within

  worker_last : (k : ℕ) (d : D) → k < w → worker (crew_of last) k ≡ account m (get_or devs_now k d)
  worker_last k d lt = worker_at m (pool_of last).workers devs_now k d (omega (arith, lt, workers_kept)) (omega (arith, within, workers_kept, stays.count))

  some_device : (k : ℕ) → k < w → D
  some_device k lt = (some_at devs k (omega (arith, lt, within))).0

  is_ready : IsEmptyRing (crew_of first).ring → IsReady depth (crew_of first)
  is_ready empty = (
    empty,
    λ k lt.
        let i : k < w = omega (arith, lt, count) in
        let d = some_device k i in
        let u = unused k d i in
        let e = worker_first k d i in
        (ap (λ (a : Account). a.room) e ∙ u.room, ap (λ (a : Account). a.held) e ∙ u.held),
  )

  none_rose : NoneStalled m (stopped_of first) (stopped_of last) → NoneRose (crew_of first) (crew_of last)
  none_rose none k lt rose =
      let i : k < w = omega (arith, lt, count) in
      let d = some_device k i in
      none k d i (subst (λ (a : Account). Rose a.stalls (account m (get_or devs_now k d)).stalls) (worker_first k d i) (subst (λ (a : Account). Rose (worker (crew_of first) k).stalls a.stalls) (worker_last k d i) rose))

  sum_given : total w (λ k. length (h.given k)) ≡ taken_by past
  sum_given = ap (λ (n : ℕ). total n (λ k. length (h.given k))) (sym count) ∙ h.deals.sum

  few_taken : taken_by past ≤ length ops
  few_taken = omega (arith, rest_within size ops past flows)

  given_few : (k : ℕ) → k < w → length (h.given k) ≤ length ops
  given_few k lt = omega (arith, part_within w (λ j. length (h.given j)) k lt, sum_given, few_taken)

  takes : length ops < 2 ^ 64 - 1 → (k : ℕ) (d : D) → k < w → HasTaken (h.given k) (account m (get_or devs k d)) (account m (get_or devs_now k d))
  takes few k d lt =
      let took = h.deals.each k (omega (arith, lt, count)) in
      let here = subst (λ (a : Account). Took (h.given k) a (account m (get_or devs_now k d))) (worker_first k d lt) (subst (Took (h.given k) (worker (crew_of first) k)) (worker_last k d lt) took) in
      has_taken depth (h.given k) _ _ (unused k d lt) here (omega (arith, given_few k lt, few))

  abbrev part : ℕ → List LogEntry
  part k = assigned (stopped_of first) depth size ops k

  abbrev left_over : ℕ → List LogEntry
  left_over k = l.left (length (crew_of last).workers) (crew_of last).turn (rest_of_burst past) (drop (taken_by past + length (rest_of_burst past)) ops) k

  module _ (turn : (crew_of first).turn ≡ 0) (begins : IsEmptyRing (crew_of first).ring × IsRingAt size 0 (crew_of first).ring) (none : NoneStalled m (stopped_of first) (stopped_of last)) where
    is_all : (k : ℕ) → k < w → h.given k ++ left_over k ≡ part k
    is_all k lt =
        (h.fair begins.1 (is_ready begins.0) (none_rose none)).all k (omega (arith, lt, count))
        ∙ ap (λ (n : ℕ). l.left n (crew_of first).turn [] ops k) count ∙ ap (λ (t : ℕ). l.left w t [] ops k) turn ∙ l.starts w ops k

    front : (k : ℕ) → k < w → IsFrontOf (part k) (h.given k)
    front k lt = (length (h.given k), sym (take-append_seam (h.given k) (left_over k)) ∙ ap (take (length (h.given k))) (is_all k lt))

    whole : taken_by past ≡ length ops → (k : ℕ) → k < w → h.given k ≡ part k
    whole all k lt =
        let n = length (crew_of last).workers in let t = (crew_of last).turn in
        let nothing : left_over k ≡ [] = none_left (λ r u. l.left n t r u k) size ops past flows all (l.ends n t k) in
        sym (append-nil (h.given k)) ∙ ap (λ (e : List LogEntry). h.given k ++ e) (sym nothing) ∙ is_all k lt

  all_dealt : length ops < 2 ^ 64 - 1 → (crew_of first).turn ≡ 0 → IsEmptyRing (crew_of first).ring × IsRingAt size 0 (crew_of first).ring
      → HasDealt m depth size ops past (stopped_of first) (stopped_of last)
  all_dealt few turn begins = record {
    given = h.given;
    takes = takes few;
    sum = sum_given;
    few = few_taken;
    fronts = λ none. front turn begins none;
    whole = λ none. whole turn begins none;
    stays = stays;
  }

-- From a stopped scheduler with unused workers of this depth, which was started with a ring of this capacity, to what is
-- left of it when it is stopped or broken up behind these calls.
pub has_dealt : {C D : Type 0} (m : Ghosts D C) (s : Stopped D) (cap depth size : ℕ) (ops : List LogEntry) (past : List Call) (first last : Running C D m)
    → IsStarted s cap first → AreUnused m depth s → Ran (λ (r : Running C D m) (c : Call) (q : Running C D m). DoesCall r c q) first past last
    → Flows size ops past → 0 < depth → 0 < size → size ≤ cap → renumbered 0 ops ≡ ops → length ops < 2 ^ 64 - 1 → HasDealt m depth size ops past s (stopped_of last)
has_dealt {C} {D} m s cap depth size ops past first last started unused ran flows some more fits own few =
    let mode = mode_of first in
    let threshold = (pool_of first).threshold in
    let l = leaves mode threshold depth size some more in
    let on = goes_on first past last ran in
    let h = dealt (λ (r : Running C D m). crew_of r) (offers_by mode threshold) depth size l.left ops l.fits l.begins own first past last on.1 flows in
    let is = started.stopped in
    subst (λ (x : Stopped D). HasDealt m depth size ops past x (stopped_of last)) is
    (all_dealt m depth size ops past first last on.0 flows (subst (AreUnused m depth) (sym is) unused) l h few started.turn (ring_begins size cap s.ordering _ fits started.ring))

-- the workers' counts together
pub sums : {C D : Type 0} (m : Ghosts D C) (depth size : ℕ) (ops : List LogEntry) (past : List Call) (old new : Stopped D)
    → HasDealt m depth size ops past old new → (d : D) → total old.workers (λ k. (m.stats (get_or new.devs k d)).enqueued) ≡ taken_by past
sums m depth size ops past old new h d =
    total_same old.workers (λ k. (m.stats (get_or new.devs k d)).enqueued) (λ k. length (h.given k)) (λ k lt. (h.takes k d lt).enqueued) ∙ h.sum
