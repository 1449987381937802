-- A burst by round-robin.
use Rattle.std.proofs.Common.{◌≡◌, ℕ, ◌<◌, ◌≤◌, List, length, get_or, map, take, min, Option, None, Some, option_map, refl, ap, ◌∙◌, sym, subst, arith}
use Rattle.std.proofs.lemmas.List.{length-map}
use Rattle.crypto_model.specs.Counts.{Rose}
use Rattle.crypto_op.specs.declared.op.Op.{Op}
use Rattle.crypto_op.specs.Burst.{Burst}
use Rattle.dev_core.specs.Burst.{front_log, offered}
use Rattle.dev_core.specs.declared.driver.Driver.{Ghosts}
use Rattle.dev_core.specs.declared.driver.LogEntry.{LogEntry}
use Rattle.sched_modes.specs.Admits.{round_admits}
use Rattle.sched_modes.specs.Crew.{Crew, DealsOut, Grew, IsCause, Places, RoundOffers, account, free, lengths, only_for, stalls_of, told, total, turned, worker}
use Rattle.sched_modes.specs.Workers.{Serves}
use Rattle.sched_modes.proofs.Bursts.{free_le, length_front_log, length_told, take_front_log, total_only}
use Rattle.sched_modes.proofs.Crews.{count_workers, crew_stalls, deals_out, of_worker}

some_same : (a b : ℕ) → Some a ≡ Some b → a ≡ b
some_same a b e = cc

none_some : (f : ℕ → ℕ) (x : ℕ) → option_map {T = ℕ} {U = ℕ} f None ≡ Some x → ⊥
none_some f x e = cc

-- the room that is told
pub told_by : (o : Option ℕ) (m x : ℕ) → option_map (λ q. min m q) o ≡ Some x → (r : ℕ) × (o ≡ Some r) × (min m r ≡ x)
told_by None m x e = absurd (none_some (λ q. min m q) x e)
told_by (Some r) m x e = (r, refl, some_same (min m r) x e)

abbrev total_of : ℕ → ℕ → List LogEntry → ℕ
total_of w t ops = total w (λ k. length (only_for t ops k))

abbrev DealsAs : {C D : Type 0} → Ghosts D C → ℕ → List D → List D → (t t' : ℕ) → (o o' : Option Places) → ℕ → List LogEntry → Type 0
DealsAs m w devs devs' t t' o o' n es = DealsOut (only_for t es) n (record { turn = t; workers = map (account m) (take w devs); ring = o }) (record { turn = t'; workers = map (account m) (take w devs'); ring = o' })

pub round_offers : {C D : Type 0} (m : Ghosts D C) (w : ℕ) (devs devs' : List D) (t t' : ℕ) (o o' : Option Places) (b : Burst (Op C)) (most n : ℕ) → w ≤ length devs → t < w → n ≤ free o (offered most b)
    → Serves m (only_for t (told o (front_log n b))) w devs devs' → Grew n o o' → ((d : D) → IsCause (free o (offered most b)) n (account m (get_or devs t d)) (account m (get_or devs' t d))) → t' ≡ turned w t (offered most b)
    → RoundOffers (record { turn = t; workers = map (account m) (take w devs); ring = o }) (front_log most b) n (record { turn = t'; workers = map (account m) (take w devs'); ring = o' })
round_offers m w devs devs' t t' o o' b most n within lt few s grew cause turn =
    let all = length_front_log most b in
    let some = free_le o (offered most b) in
    let fewer : n ≤ offered most b = omega (arith, few, some) in
    let ops : List LogEntry = told o (front_log n b) in
    let is : told o (take n (front_log most b)) ≡ ops = ap (told o) (take_front_log n most b (omega (arith, fewer))) in
    let sum : total_of w t ops ≡ n = total_only w t ops lt ∙ (length_told o (front_log n b) ∙ (length_front_log n b ∙ omega (arith, fewer))) in
    record {
      deals = subst (λ (es : List LogEntry). DealsAs m w devs devs' t t' o o' n es) (sym is) (deals_out m (only_for t ops) n w devs devs' t t' o o' within s sum);
      most = rw all few;
      ring = grew;
      within = (let c = count_workers m w devs within in omega (arith, c, lt));
      cause = rw all (of_worker m w devs devs' (IsCause (free o (offered most b)) n) t lt within s.len cause);
      turn = rw (count_workers m w devs within, all) turn;
    }

pub round_admitted : (old new : Crew) (ops : List LogEntry) (lens : List ℕ) (n a : ℕ) → lens ≡ lengths ops → RoundOffers old ops n new → round_admits old lens ≡ Some a → n ≤ a
round_admitted old new ops lens n a is o e =
    let r = told_by (worker old old.turn).room (free old.ring (length lens)) a e in
    let len : free old.ring (length lens) ≡ free old.ring (length ops) = ap (λ (l : List ℕ). free old.ring (length l)) is ∙ ap (free old.ring) (length-map ops (λ (e : LogEntry). e.data_len)) in
    omega (arith, r.2, len, o.most, (o.cause r.0 r.1).0)

pub round_stalls : (old new : Crew) (ops : List LogEntry) (lens : List ℕ) (n a : ℕ) → lens ≡ lengths ops → RoundOffers old ops n new → round_admits old lens ≡ Some a → n < a → Rose (stalls_of old) (stalls_of new)
round_stalls old new ops lens n a is o e less =
    let r = told_by (worker old old.turn).room (free old.ring (length lens)) a e in
    let len : free old.ring (length lens) ≡ free old.ring (length ops) = ap (λ (l : List ℕ). free old.ring (length l)) is ∙ ap (free old.ring) (length-map ops (λ (e : LogEntry). e.data_len)) in
    crew_stalls (only_for old.turn (told old.ring (take n ops))) n old new old.turn o.deals o.within ((o.cause r.0 r.1).1 (omega (arith, r.2, len, less)))
