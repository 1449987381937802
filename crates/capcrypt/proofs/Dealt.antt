-- A run whose operations a scheduler deals to several devices.
use Rattle.std.proofs.Common.{◌≡◌, ◌==◌, ℕ, zero, suc, ◌+◌, ◌-◌, ◌<◌, ◌≤◌, Bool, true, false, eqb-true, List, [], ◌∷◌, ◌++◌, length, get_or, map, take, drop, Option, None, Some, refl, ap, sym, subst, ◌∙◌, arith}
use Rattle.dev_core.specs.Offers.{taken_by}
use Rattle.std.specs.Prelude.{option_map}
use Rattle.std.specs.List.{sum_by}
use Rattle.std.proofs.lemmas.Bool.Decides.{nat_tests}
use Rattle.std.proofs.lemmas.List.Sums.{sum_by-cons}
use Rattle.crypto_model.specs.Counts.{capped, Rose}
use Rattle.crypto_model.specs.Process.{Transform}
use Rattle.crypto_op.specs.declared.spec.Card.{Card}
use Rattle.dev_core.specs.declared.driver.Driver.{Ghosts}
use Rattle.dev_core.specs.declared.driver.LogEntry.{LogEntry}
use Rattle.dev_core.specs.declared.stats.Stats.{Stats}
use Rattle.dev_core.specs.Calls.{Call, Ran}
use Rattle.session_file.specs.declared.plan.Plan.{Plan}
use Rattle.packet_flow.specs.Entries.{IsNumbered}
use Rattle.sched_core.specs.Stopped.{Stopped}
use Rattle.sched_core.specs.Mode.{most_workers}
use Rattle.sched_core.specs.declared.mode.Mode.{Mode}
use Rattle.sched_core.specs.declared.mode.Mode.TheVariants.{RoundRobin, PacketSize, FailOver, MultiCore}
use Rattle.sched_core.specs.declared.text.SchedText.{SchedText}
use Rattle.sched_core.proofs.Dealt.{some_at}
use Rattle.sched_modes.specs.Crew.{Account, account, nobody, total}
use Rattle.sched_modes.specs.Dealing.{AreUnused, HasDealt, NoneStalled}
use Rattle.sched_modes.specs.Pool.{Follows, stalls_in}
use Rattle.sched_modes.specs.Workers.{Goes}
use Rattle.sched_modes.specs.declared.pool.Pool.{Pool}
use Rattle.sched_modes.specs.Running.{DoesCall, IsStarted, pool_of, stopped_of}
use Rattle.sched_modes.specs.declared.running.Running.{Running}
use Rattle.sched_modes.proofs.Bursts.{total_same}
use Rattle.sched_modes.proofs.Crews.{count_workers, worker_at}
use Rattle.sched_modes.proofs.Dealing.{has_dealt, sums}
use Rattle.capcrypt.specs.declared.ending.Ending.{Ending}
use Rattle.capcrypt.specs.declared.dealing.Dealing.TheVariants.{Forwarded, Scheduled}
use Rattle.capcrypt.specs.Dealing.{scheduler_of}
use Rattle.capcrypt.specs.Devices.{DeviceNow, HasStalledOut, HaveStalledOut, NoneRose, at, device_now, stalled_together, taken_together}
use Rattle.capcrypt.specs.Ran.{IsAccepted, IsDecided, IsDriven}
use Rattle.capcrypt.specs.Served.{WereSetUp, HasServed, HaveServed, WasSetUp}
use Rattle.capcrypt.proofs.Alone.{told_since}
use Rattle.capcrypt.proofs.Limits.{numbered_again}

-- a device of a list, as plain data
pub at_map : {D : Type 0} (f : D → DeviceNow) (xs : List D) (k : ℕ) (d : D) → k < length xs → at (map f xs) k ≡ f (get_or xs k d)
at_map f [] k d below = absurd (omega (arith, below))
at_map f (x ∷ xs) zero d below = refl
at_map f (x ∷ xs) (suc k) d below = at_map f xs k d (omega (arith, below))

-- what is so of each device of a front is so of its plain data
pub ready_at : {D : Type 0} (f : D → DeviceNow) (plan : Plan) (n : ℕ) (devs mid : List D) → n ≤ length devs → length mid ≡ length devs → WereSetUp f plan n devs mid
    → (k : ℕ) → k < n → WasSetUp plan (at (map f devs) k) (at (map f mid) k)
ready_at f plan n devs mid within count ready k lt =
    let d = (some_at devs k (omega (arith, lt, within))).0 in
    subst (λ (x : DeviceNow). WasSetUp plan x (at (map f mid) k)) (sym (at_map f devs k d (omega (arith, lt, within))))
    (subst (WasSetUp plan (f (get_or devs k d))) (sym (at_map f mid k d (omega (arith, lt, within, count)))) (ready k d lt))

-- devices that were made ready are unused
pub unused : {D : Type 0} (m : Ghosts D Card) (limit : D → ℕ) (room_told : (d : D) → m.room d ≡ Some (limit d - length (m.held d))) (plan : Plan) (text : SchedText)
    (sessions : List (List Transform)) (devs mid : List D) → WereSetUp (device_now limit m.sessions m.held m.room m.stalls m.stats m.log) plan text.workers devs mid
    → AreUnused m 128 (scheduler_of text sessions mid)
unused m limit room_told plan text sessions devs mid ready k d lt =
    let r = ready k d lt in
    let e = get_or mid k d in
    record {
      held = ap length r.held;
      room = room_told e ∙ ap Some (let n : limit e - length (m.held e) ≡ 128 = omega (arith, r.served.depth, ap length r.held) in n);
      enqueued = r.served.enqueued;
      log = r.served.log ∙ sym (told_since [] (option_map (λ l. []) (m.log e)) (m.log e) (m.log (get_or devs k d)) r.served.log refl);
    }

-- ---- sums

total_first : (n : ℕ) (f : ℕ → ℕ) → total (suc n) f ≡ f 0 + total n (λ k. f (suc k))
total_first zero f = omega arith
total_first (suc n) f = let r = total_first n f in omega (arith, r)

sum_total : (g : Account → ℕ) (xs : List Account) → sum_by g xs ≡ total (length xs) (λ k. g (get_or xs k nobody))
sum_total g [] = refl
sum_total g (x ∷ xs) = let r = sum_total g xs in omega (arith, sum_by-cons g x xs, total_first (length xs) (λ k. g (get_or (x ∷ xs) k nobody)), r)

total_capped : (w : ℕ) (f g : ℕ → ℕ) → ((k : ℕ) → k < w → capped (f k) ≡ capped (g k)) → capped (total w f) ≡ capped (total w g)
total_capped zero f g same = refl
total_capped (suc w) f g same =
    let r = total_capped w f g (λ k lt. same k (omega (arith, lt))) in
    let l = same w (omega arith) in
    omega (arith, r, l)

part_of : (w : ℕ) (f : ℕ → ℕ) (k : ℕ) → k < w → f k ≤ total w f
part_of zero f k lt = absurd (omega (arith, lt))
part_of (suc w) f k lt = by_place (k == w) refl (part_of w f k) where
  by_place : (b : Bool) → (k == w) ≡ b → (k < w → f k ≤ total w f) → f k ≤ total w f + f w
  by_place true is earlier = let here : k ≡ w = eqb-true k w is in omega (arith, ap f here)
  by_place false is earlier = let below : k < w = grind (arith, nat_tests) in let r = earlier below in omega (arith, r)

-- a log that was emptied, and what was told since
log_from : (taken : List LogEntry) (now emptied log : Option (List LogEntry)) → emptied ≡ option_map (λ l. []) log → now ≡ option_map (λ l. l ++ taken) emptied → now ≡ option_map (λ l. taken) log
log_from taken now emptied None is told = told ∙ ap (option_map (λ (l : List LogEntry). l ++ taken)) is
log_from taken now emptied (Some l) is told = told ∙ ap (option_map (λ (x : List LogEntry). x ++ taken)) is

-- as many stalls as a run suffers, of sums that stand still at their last value
stalls_capped : (before now enqueued taken old new : ℕ) → old ≡ capped before → new ≡ capped now → capped enqueued ≡ capped taken → HasStalledOut old enqueued new → HasStalledOut before taken now
stalls_capped before now enqueued taken old new a b c out = omega (arith, a, b, c, out)

module _ {D : Type 0} (m : Ghosts D Card) (limit : D → ℕ) (room_told : (d : D) → m.room d ≡ Some (limit d - length (m.held d))) (keeps_depth : (d e : D) → m.follows d e → limit e ≡ limit d)
    (plan : Plan) (burst : ℕ) (text : SchedText) (sessions : List (List Transform)) (devs mid : List D) (first last : Running Card D m)
    (within : text.workers ≤ length devs) (count : length mid ≡ length devs)
    (ready : WereSetUp (device_now limit m.sessions m.held m.room m.stalls m.stats m.log) plan text.workers devs mid)
    (started : IsStarted (scheduler_of text sessions mid) 1024 first) (on : Follows (pool_of first) (pool_of last)) where
  abbrev f : D → DeviceNow
  f = device_now limit m.sessions m.held m.room m.stalls m.stats m.log

  abbrev w : ℕ
  w = text.workers

  abbrev back : List D
  back = (pool_of last).devs.items

  begun : (pool_of first).devs.items ≡ mid
  begun = ap (λ (x : Stopped D). x.devs) started.stopped

  workers : (pool_of first).workers ≡ w
  workers = ap (λ (x : Stopped D). x.workers) started.stopped

  pub same_count : length back ≡ length devs
  same_count = on.went.devs.len ∙ ap length begun ∙ count

  -- each worker went on
  goes : (k : ℕ) (d : D) → Goes m (on.parts k) (get_or mid k d) (get_or back k d)
  goes k d = subst (λ (ds : List D). Goes m (on.parts k) (get_or ds k d) (get_or back k d)) begun (on.went.devs.each k d)

  was_at : (k : ℕ) (d : D) → k < w → at (map f devs) k ≡ f (get_or devs k d)
  was_at k d lt = at_map f devs k d (omega (arith, lt, within))

  is_at : (k : ℕ) (d : D) → k < w → at (map f back) k ≡ f (get_or back k d)
  is_at k d lt = at_map f back k d (omega (arith, lt, within, same_count))

  some_device : (k : ℕ) → k < w → D
  some_device k lt = (some_at devs k (omega (arith, lt, within))).0

  -- ---- what was dealt

  module _ (ops : List LogEntry) (e : Ending) (past : List Call) (enqueued : ℕ) (before now : Option (List LogEntry)) (drv : IsDriven burst ops e past enqueued before now)
      (ran : Ran (λ r c q. DoesCall r c q) first past last) (numbered : IsNumbered 0 ops) (some : 1 ≤ burst) (most : burst ≤ 256) (worker : 1 ≤ text.workers) where
    dealt : HasDealt m 128 burst ops past (scheduler_of text sessions mid) (stopped_of last)
    dealt = has_dealt m (scheduler_of text sessions mid) 1024 128 burst ops past first last started (unused m limit room_told plan text sessions devs mid ready) ran drv.flows (omega arith) (omega (arith, some)) (omega (arith, most))
        (numbered_again 0 ops numbered (omega (arith, drv.few))) (omega (arith, drv.few))

    together : taken_together w (map f back) ≡ taken_by past
    together =
        let d = some_device 0 (omega (arith, worker)) in
        total_same w (λ i. (at (map f back) i).enqueued) (λ k. (m.stats (get_or back k d)).enqueued) (λ k lt. ap (λ (x : DeviceNow). x.enqueued) (is_at k d lt))
        ∙ sums m 128 burst ops past (scheduler_of text sessions mid) (stopped_of last) dealt d

    none_stalled : NoneRose w (map f devs) (map f back) → NoneStalled m (scheduler_of text sessions mid) (stopped_of last)
    none_stalled known k d lt rose =
        let was : m.stalls (get_or mid k d) ≡ (at (map f devs) k).stalls = (ready k d lt).stalls ∙ sym (ap (λ (x : DeviceNow). x.stalls) (was_at k d lt)) in
        let is : m.stalls (get_or back k d) ≡ (at (map f back) k).stalls = sym (ap (λ (x : DeviceNow). x.stalls) (is_at k d lt)) in
        known k lt (subst (λ (n : ℕ). Rose n (at (map f back) k).stalls) was (subst (λ (n : ℕ). Rose (m.stalls (get_or mid k d)) n) is rose))

    each_served : (k : ℕ) → k < w → HasServed plan (dealt.given k) (at (map f devs) k).log (at (map f back) k)
    each_served k lt =
        let d = some_device k lt in
        let r = ready k d lt in
        let g = goes k d in
        let t = dealt.takes k d lt in
        subst (λ (x : DeviceNow). HasServed plan (dealt.given k) (at (map f devs) k).log x) (sym (is_at k d lt))
        (subst (λ (x : DeviceNow). HasServed plan (dealt.given k) x.log (f (get_or back k d))) (sym (was_at k d lt)) (record {
          depth = keeps_depth (get_or mid k d) (get_or back k d) g.on ∙ r.served.depth;
          sessions = g.sessions ∙ r.served.sessions;
          enqueued = t.enqueued;
          log = told_since (dealt.given k) (m.log (get_or back k d)) (m.log (get_or mid k d)) (m.log (get_or devs k d)) r.served.log t.log;
        }))

    pub dealt_served : HaveServed (record { plan = plan; burst = burst; dealing = Scheduled text }) ops (map f devs) (map f back)
    dealt_served = record {
      given = dealt.given;
      each = each_served;
      few = omega (arith, together, dealt.few);
      fronts = λ known k lt. dealt.fronts (none_stalled known) k lt;
      whole = λ known all k lt. dealt.whole (none_stalled known) (omega (arith, together, all)) k lt;
    }

    pub dealt_whole : IsDecided e → taken_together w (map f back) ≡ length ops
    dealt_whole decided = omega (arith, together, drv.count, ap length (drv.whole decided))

  -- ---- what was suffered

  stalls_are : (p : Pool Card D m) → p.workers ≡ w → w ≤ length p.devs.items → stalls_in p ≡ capped (stalled_together w (map f p.devs.items))
  stalls_are p same fits =
      let xs = map (account m) (take p.workers p.devs.items) in
      let fits_all : p.workers ≤ length p.devs.items = omega (arith, same, fits) in
      let counted : length xs ≡ w = count_workers m p.workers p.devs.items fits_all ∙ same in
      ap capped (sum_total (λ a. a.stalls) xs ∙ ap (λ (n : ℕ). total n (λ k. (get_or xs k nobody).stalls)) counted
      ∙ total_same w (λ k. (get_or xs k nobody).stalls) (λ i. (at (map f p.devs.items) i).stalls) (λ k lt.
      let d = (some_at p.devs.items k (omega (arith, lt, fits))).0 in
      ap (λ (x : Account). x.stalls) (worker_at m p.workers p.devs.items k d (omega (arith, lt, same)) fits_all)
      ∙ sym (ap (λ (x : DeviceNow). x.stalls) (at_map f p.devs.items k d (omega (arith, lt, fits))))))

  same_stalls : stalled_together w (map f (pool_of first).devs.items) ≡ stalled_together w (map f devs)
  same_stalls = total_same w (λ i. (at (map f (pool_of first).devs.items) i).stalls) (λ i. (at (map f devs) i).stalls) (λ k lt.
      let d = some_device k lt in
      ap (λ ds. (at (map f ds) k).stalls) begun ∙ ap (λ (x : DeviceNow). x.stalls) (at_map f mid k d (omega (arith, lt, within, count)))
      ∙ (ready k d lt).stalls ∙ sym (ap (λ (x : DeviceNow). x.stalls) (was_at k d lt)))

  same_taken : capped (pool_of last).stats.enqueued ≡ capped (taken_together w (map f back))
  same_taken =
      let none : (pool_of first).stats.enqueued ≡ 0 = ap (λ (x : Stats). x.enqueued) started.stats in
      let parts : total (pool_of first).workers (λ k. length (on.parts k)) ≡ total w (λ k. length (on.parts k)) = ap (λ (n : ℕ). total n (λ k. length (on.parts k))) workers in
      let each = total_capped w (λ i. (at (map f back) i).enqueued) (λ k. length (on.parts k)) (λ k lt.
      let d = some_device k lt in
      let is = ap (λ (x : DeviceNow). x.enqueued) (is_at k d lt) in
      omega (arith, is, (goes k d).took.enqueued, (ready k d lt).served.enqueued)) in
      omega (arith, on.enqueued, none, parts, each)

  pub dealt_stalled : HasStalledOut (stalls_in (pool_of first)) (pool_of last).stats.enqueued (stalls_in (pool_of last)) → HaveStalledOut w (map f devs) (map f back)
  dealt_stalled out =
      let fits : w ≤ length (pool_of first).devs.items = omega (arith, within, count, ap length begun) in
      stalls_capped (stalled_together w (map f devs)) (stalled_together w (map f back)) (pool_of last).stats.enqueued (taken_together w (map f back)) (stalls_in (pool_of first)) (stalls_in (pool_of last))
      (stalls_are (pool_of first) workers fits ∙ ap capped same_stalls) (stalls_are (pool_of last) (on.went.workers ∙ workers) (omega (arith, within, same_count))) same_taken out

  -- ---- what an adapter over the scheduler gave

  -- each worker took its part, whatever bursts were offered
  module _ (ops : List LogEntry) (e : Ending) (given : IsAccepted ops e (pool_of last).stats.enqueued) (worker : 1 ≤ text.workers) where
    all_parts : total w (λ k. length (on.parts k)) ≡ (pool_of last).stats.enqueued
    all_parts =
        let none : (pool_of first).stats.enqueued ≡ 0 = ap (λ (x : Stats). x.enqueued) started.stats in
        let parts : total (pool_of first).workers (λ k. length (on.parts k)) ≡ total w (λ k. length (on.parts k)) = ap (λ (n : ℕ). total n (λ k. length (on.parts k))) workers in
        omega (arith, on.enqueued, none, parts, given.most, given.few)

    part_counted : (k : ℕ) (d : D) → k < w → (m.stats (get_or back k d)).enqueued ≡ length (on.parts k)
    part_counted k d lt = omega (arith, (goes k d).took.enqueued, (ready k d lt).served.enqueued, part_of w (λ i. length (on.parts i)) k lt, all_parts, given.most, given.few)

    each_given : (k : ℕ) → k < w → HasServed plan (on.parts k) (at (map f devs) k).log (at (map f back) k)
    each_given k lt =
        let d = some_device k lt in
        let r = ready k d lt in
        let g = goes k d in
        subst (λ (x : DeviceNow). HasServed plan (on.parts k) (at (map f devs) k).log x) (sym (is_at k d lt))
        (subst (λ (x : DeviceNow). HasServed plan (on.parts k) x.log (f (get_or back k d))) (sym (was_at k d lt)) (record {
          depth = keeps_depth (get_or mid k d) (get_or back k d) g.on ∙ r.served.depth;
          sessions = g.sessions ∙ r.served.sessions;
          enqueued = part_counted k d lt;
          log = log_from (on.parts k) (m.log (get_or back k d)) (m.log (get_or mid k d)) (m.log (get_or devs k d)) r.served.log g.took.log;
        }))

    given_together : taken_together w (map f back) ≡ (pool_of last).stats.enqueued
    given_together =
        total_same w (λ i. (at (map f back) i).enqueued) (λ k. length (on.parts k)) (λ k lt.
        let d = some_device k lt in
        ap (λ (x : DeviceNow). x.enqueued) (is_at k d lt) ∙ part_counted k d lt) ∙ all_parts

    pub forwarded_served : HaveServed (record { plan = plan; burst = burst; dealing = Forwarded text }) ops (map f devs) (map f back)
    forwarded_served = record {
      given = on.parts;
      each = each_given;
      few = omega (arith, given_together, given.most);
      fronts = λ known. absurd known;
      whole = λ known. absurd known;
    }

    pub forwarded_whole : IsDecided e → taken_together w (map f back) ≡ length ops
    forwarded_whole decided = omega (arith, given_together, given.whole decided)

  -- the devices behind the workers are as they were
  pub dealt_others : drop w mid ≡ drop w devs → drop w back ≡ drop w devs
  dealt_others same = ap (λ (n : ℕ). drop n back) (sym workers) ∙ on.went.devs.others ∙ ap (λ (n : ℕ). drop n (pool_of first).devs.items) workers ∙ ap (drop w) begun ∙ same

-- no mode has more than eight workers
pub most_eight : (mode : Mode) → most_workers mode ≤ 8
most_eight RoundRobin = omega arith
most_eight PacketSize = omega arith
most_eight FailOver = omega arith
most_eight MultiCore = omega arith
