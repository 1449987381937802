-- What burst calls keep, over several calls.
use Rattle.std.specs.Prelude.{◌≡◌, ℕ, zero, suc, ◌+◌, List, [], ◌++◌, length, Option, None, Some, option_map, slice_index_or}
use Rattle.std.proofs.Common.{refl, ap, ◌∙◌, sym, subst, arith, length-append}
use Rattle.std.proofs.lemmas.List.{append-nil, append_assoc}
use Rattle.dev_core.specs.declared.driver.Driver.{Ghosts}
use Rattle.dev_core.specs.declared.driver.LogEntry.{LogEntry}
use Rattle.sched_core.specs.declared.ring.Slot.{Slot}
use Rattle.sched_core.specs.Pending.{InOrder}
use Rattle.sched_core.specs.Ring.{Ring}
use Rattle.sched_modes.specs.Crew.{Account, Took, total}
use Rattle.sched_modes.specs.Workers.{Goes, EachGoes, Serves, ring_cap}
use Rattle.sched_modes.specs.Pool.{Follows, WentOn}
use Rattle.sched_modes.specs.declared.pool.Pool.{Pool}

pub log_same : (o : Option (List LogEntry)) → o ≡ option_map (λ l. l ++ []) o
log_same None = refl
log_same (Some l) = ap Some (sym (append-nil l))

log_two : (xs ys : List LogEntry) (o : Option (List LogEntry)) → option_map (λ l. l ++ ys) (option_map (λ l. l ++ xs) o) ≡ option_map (λ l. l ++ (xs ++ ys)) o
log_two xs ys None = refl
log_two xs ys (Some l) = ap Some (append_assoc l xs ys)

pub took_same : (a : Account) → Took [] a a
took_same a = record { stalls = omega arith; enqueued = omega arith; log = log_same a.log; room = λ r e. (r, e, refl) }

pub took_two : (xs ys : List LogEntry) (a b c : Account) → Took xs a b → Took ys b c → Took (xs ++ ys) a c
took_two xs ys a b c p q = record {
  stalls = omega (arith, p.stalls, q.stalls);
  enqueued = omega (arith, p.enqueued, q.enqueued, length-append xs ys);
  log = q.log ∙ (ap (option_map (λ (l : List LogEntry). l ++ ys)) p.log ∙ log_two xs ys a.log);
  room = λ r e. let x = p.room r e in let y = q.room x.0 x.1 in (y.0, y.1, y.2 ∙ x.2);
}

pub goes_same : {C D : Type 0} (m : Ghosts D C) → ((a : D) → m.follows a a) → (a : D) → Goes m [] a a
goes_same m same a = record { on = same a; sessions = refl; took = took_same _ }

pub goes_two : {C D : Type 0} (m : Ghosts D C) → ((a b c : D) → m.follows a b → m.follows b c → m.follows a c) → (xs ys : List LogEntry) (a b c : D)
    → Goes m xs a b → Goes m ys b c → Goes m (xs ++ ys) a c
goes_two m on xs ys a b c p q = record { on = on a b c p.on q.on; sessions = q.sessions ∙ p.sessions; took = took_two xs ys _ _ _ p.took q.took }

pub each_two : {C D : Type 0} (m : Ghosts D C) → ((a b c : D) → m.follows a b → m.follows b c → m.follows a c) → (f g : ℕ
    → List LogEntry) (xs ys zs : List D) → EachGoes m f xs ys → EachGoes m g ys zs → EachGoes m (λ k. f k ++ g k) xs zs
each_two m on f g xs ys zs p q k d = goes_two m on (f k) (g k) (slice_index_or xs k d) (slice_index_or ys k d) (slice_index_or zs k d) (p k d) (q k d)

pub serves_same : {C D : Type 0} (m : Ghosts D C) → ((a : D) → m.follows a a) → (w : ℕ) (devs : List D) → Serves m (λ k. []) w devs devs
serves_same m same w devs = record { len = refl; each = λ k d. goes_same m same (slice_index_or devs k d); others = refl }

pub serves_two : {C D : Type 0} (m : Ghosts D C) → ((a b c : D) → m.follows a b → m.follows b c → m.follows a c) → (f g : ℕ
    → List LogEntry) (w : ℕ) (xs ys zs : List D) → Serves m f w xs ys → Serves m g w ys zs → Serves m (λ k. f k ++ g k) w xs zs
serves_two m on f g w xs ys zs p q = record { len = q.len ∙ p.len; each = each_two m on f g xs ys zs p.each q.each; others = q.others ∙ p.others }

pub went_same : {C D : Type 0} {m : Ghosts D C} → ((a : D) → m.follows a a) → (p : Pool C D m) → WentOn (λ k. []) p p
went_same {m = m} same p = record { workers = refl; threshold = refl; sessions = refl; cap = refl; devs = serves_same m same p.workers p.devs.items }

pub went_two : {C D : Type 0} {m : Ghosts D C} → ((a b c : D) → m.follows a b → m.follows b c → m.follows a c) → (f g : ℕ
    → List LogEntry) (p q r : Pool C D m) → WentOn f p q → WentOn g q r → WentOn (λ k. f k ++ g k) p r
went_two {m = m} on f g p q r x y = record {
  workers = y.workers ∙ x.workers;
  threshold = y.threshold ∙ x.threshold;
  sessions = y.sessions ∙ x.sessions;
  cap = y.cap ∙ x.cap;
  devs = serves_two m on f g p.workers p.devs.items q.devs.items r.devs.items x.devs (subst (λ (w
      : ℕ). Serves m g w q.devs.items r.devs.items) x.workers y.devs);
}

pub total_none : (w : ℕ) → total w (λ k. 0) ≡ 0
total_none zero = refl
total_none (suc w) = let r = total_none w in omega (arith, r)

pub total_joined : (size : List LogEntry → ℕ) → ((xs ys : List LogEntry) → size (xs ++ ys) ≡ size xs + size ys) → (w : ℕ) (f g : ℕ → List LogEntry)
    → total w (λ k. size (f k ++ g k)) ≡ total w (λ k. size (f k)) + total w (λ k. size (g k))
total_joined size joined zero f g = refl
total_joined size joined (suc w) f g = let r = total_joined size joined w f g in omega (arith, r, joined (f w) (g w))

pub follows_same : {C D : Type 0} {m : Ghosts D C} → ((a : D) → m.follows a a) → (p : Pool C D m) → Follows p p
follows_same same p = record { parts = λ k. []; went = went_same same p; enqueued = (let r = total_none p.workers in omega (arith, r)) }

pub follows_two : {C D : Type 0} {m : Ghosts D C} → ((a b c : D) → m.follows a b → m.follows b c → m.follows a c) → (p q r : Pool C D m) → Follows p q
    → Follows q r → Follows p r
follows_two on p q r x y = record {
  parts = λ k. x.parts k ++ y.parts k;
  went = went_two on x.parts y.parts p q r x.went y.went;
  enqueued =
      (let a = total_joined length length-append p.workers x.parts y.parts in
      let b : total q.workers (λ k. length (y.parts k))
      ≡ total p.workers (λ k. length (y.parts k)) = ap (λ (w : ℕ). total w (λ k. length (y.parts k))) x.went.workers in
      omega (arith, a, b, x.enqueued, y.enqueued));
}

none_some : {X : Type 0} (x : X) → Some x ≡ None → ⊥
none_some x e = cc

-- with a ring before, with one after
pub order_kept : {C : Type 0} (a b : Option (Ring (Slot C))) → ring_cap b ≡ ring_cap a → InOrder a → InOrder b
order_kept None b e o = absurd o
order_kept (Some a) None e o = absurd (none_some a.cap (sym e))
order_kept (Some a) (Some b) e o = tt
