-- A burst by fail-over.
use Rattle.std.proofs.Common.{◌≡◌, ℕ, ◌<◌, ◌≤◌, ◌+◌, ◌-◌, List, ◌++◌, length, get_or, map, take, drop, min, Option, None, Some, option_map, refl, ap, ◌∙◌, sym, subst, arith, inl, inr, length-append}
use Rattle.std.proofs.lemmas.List.{length-map, take_at, drop_at}
use Rattle.crypto_model.specs.Counts.{Rose}
use Rattle.crypto_op.specs.declared.op.Op.{Op}
use Rattle.crypto_op.specs.Burst.{Burst}
use Rattle.dev_core.specs.Burst.{front_log, offered, rest_of}
use Rattle.dev_core.specs.declared.driver.Driver.{Ghosts}
use Rattle.dev_core.specs.declared.driver.LogEntry.{LogEntry}
use Rattle.sched_modes.specs.Admits.{both, fail_admits}
use Rattle.sched_modes.specs.Crew.{Crew, DealsOut, FailOffers, Grew, IsCause, Places, account, free, lengths, only_for, stalls_of, told, total, worker}
use Rattle.sched_modes.specs.Laws.{serves_two, total_joined}
use Rattle.sched_modes.specs.Workers.{SameBut, Serves}
use Rattle.sched_modes.proofs.Bursts.{free_le, length_front_log, length_told, take_front_log, total_only}
use Rattle.sched_modes.proofs.Crews.{count_workers, crew_stalls, deals_out, of_worker}
use Rattle.sched_modes.proofs.Held.{below}
use Rattle.sched_modes.proofs.Turns.{told_by}
use Rattle.sched_modes.proofs.Two.{free_after, grew_two, offered_rest, told_two}

-- what worker 0 takes and what worker 1 takes, together
pub sum_two : (w f s : ℕ) (xs ys : List LogEntry) → w ≡ 2 → length xs ≡ f → length ys ≡ s → total w (λ k. length (only_for 0 xs k ++ only_for 1 ys k)) ≡ f + s
sum_two w f s xs ys two x y =
    let a = total_only w 0 xs (omega (arith, two)) in let b = total_only w 1 ys (omega (arith, two)) in
    omega (arith, total_joined length length-append w (only_for 0 xs) (only_for 1 ys), a, b, x, y)

abbrev DealsTwo : {C D : Type 0} → Ghosts D C → ℕ → List D → List D → (t : ℕ) → (o o' : Option Places) → ℕ → List LogEntry → List LogEntry → Type 0
DealsTwo m w devs devs' t o o' n xs ys = DealsOut (λ k. only_for 0 xs k ++ only_for 1 ys k) n (record { turn = t; workers = map (account m) (take w devs); ring = o }) (record { turn = t; workers = map (account m) (take w devs'); ring = o' })

take_front : {X : Type 0} (f : ℕ) (all xs ys : List X) → all ≡ xs ++ ys → length xs ≡ f → take f all ≡ xs
take_front f all xs ys e l = ap (take f) e ∙ take_at xs ys f l

drop_front : {X : Type 0} (f : ℕ) (all xs ys : List X) → all ≡ xs ++ ys → length xs ≡ f → drop f all ≡ ys
drop_front f all xs ys e l = ap (drop f) e ∙ drop_at xs ys f l

pub fail_offers : {C D : Type 0} (m : Ghosts D C) → ((a b c : D) → m.follows a b → m.follows b c → m.follows a c) → (w : ℕ) (devs devs1 devs2 : List D) (t : ℕ) (o o1 o2 : Option Places) (b b1 : Burst (Op C)) (most f s : ℕ) → w ≤ length devs → w ≡ 2 → b1 ≡ rest_of f b
    → f ≤ free o (offered most b) → Serves m (only_for 0 (told o (front_log f b))) w devs devs1 → Grew f o o1 → ((d : D) → IsCause (free o (offered most b)) f (account m (get_or devs 0 d)) (account m (get_or devs1 0 d))) → SameBut 0 devs devs1
    → s ≤ free o1 (offered (most - f) b1) → Serves m (only_for 1 (told o1 (front_log s b1))) w devs1 devs2 → Grew s o1 o2 → ((d : D) → IsCause (free o1 (offered (most - f) b1)) s (account m (get_or devs1 1 d)) (account m (get_or devs2 1 d))) → SameBut 1 devs1 devs2
    → FailOffers (record { turn = t; workers = map (account m) (take w devs); ring = o }) (front_log most b) (f + s) (record { turn = t; workers = map (account m) (take w devs2); ring = o2 })
fail_offers m on w devs devs1 devs2 t o o1 o2 b b1 most f s within two rest few serves grew cause same few1 serves1 grew1 cause1 same1 =
    let all = length_front_log most b in
    let some = free_le o (offered most b) in
    let off = offered_rest most f b b1 rest in
    let left : free o1 (offered (most - f) b1) ≡ free o (offered most b) - f = ap (free o1) off ∙ free_after f (offered most b) o o1 grew few in
    let xs : List LogEntry = told o (front_log f b) in
    let ys : List LogEntry = told o1 (front_log s b1) in
    let some1 = free_le o1 (offered (most - f) b1) in
    let f_is : length xs ≡ f = length_told o (front_log f b) ∙ (length_front_log f b ∙ omega (arith, few, some)) in
    let s_is : length ys ≡ s = length_told o1 (front_log s b1) ∙ (length_front_log s b1 ∙ omega (arith, few1, some1)) in
    let joined : told o (take (f + s) (front_log most b)) ≡ xs ++ ys = ap (told o) (take_front_log (f + s) most b (omega (arith, few, few1, left, some))) ∙ told_two f s o o1 b b1 rest (omega (arith, few, some)) grew in
    let served = serves_two m on (only_for 0 xs) (only_for 1 ys) w devs devs1 devs2 serves serves1 in
    let deals = deals_out m (λ k. only_for 0 xs k ++ only_for 1 ys k) (f + s) w devs devs2 t t o o2 within served (sum_two w f s xs ys two f_is s_is) in
    let count = count_workers m w devs within in
    record {
      first = f;
      second = s;
      both = refl;
      most = rw all (omega (arith, few, few1, left));
      deals = subst (λ (zs : List LogEntry). DealsTwo m w devs devs2 t o o2 (f + s) zs (drop f (told o (take (f + s) (front_log most b))))) (sym (take_front f _ xs ys joined f_is))
          (subst (λ (zs : List LogEntry). DealsTwo m w devs devs2 t o o2 (f + s) xs zs) (sym (drop_front f _ xs ys joined f_is)) deals);
      ring = grew_two f s o o1 o2 grew grew1;
      two = count ∙ two;
      cause = rw all (of_worker m w devs devs2 (IsCause (free o (offered most b)) f) 0 (omega (arith, two)) within served.len
          (λ d. subst (λ (x : _). IsCause (free o (offered most b)) f (account m (get_or devs 0 d)) (account m x)) (sym (same1 0 d (λ e. omega (arith, e)))) (cause d)));
      cause_behind = rw (all, sym left) (of_worker m w devs devs2 (IsCause (free o1 (offered (most - f) b1)) s) 1 (omega (arith, two)) within served.len
          (λ d. subst (λ (x : _). IsCause (free o1 (offered (most - f) b1)) s (account m x) (account m (get_or devs2 1 d))) (same 1 d (λ e. omega (arith, e))) (cause1 d)));
    }

some_same : (a b : ℕ) → Some a ≡ Some b → a ≡ b
some_same a b e = cc

none_some : (x : ℕ) → None ≡ Some x → ⊥
none_some x e = cc

both_rooms : (a b : Option ℕ) (m x : ℕ) → option_map (λ q. min m q) (both a b) ≡ Some x → (r : ℕ) × (s : ℕ) × (a ≡ Some r) × (b ≡ Some s) × (min m (r + s) ≡ x)
both_rooms None b m x e = let n = told_by None m x e in absurd (none_some n.0 n.1)
both_rooms (Some r) None m x e = let n = told_by None m x e in absurd (none_some n.0 n.1)
both_rooms (Some r) (Some s) m x e = let n = told_by (Some (r + s)) m x e in (r, s, refl, refl, (let k = some_same (r + s) n.0 n.1 in omega (arith, n.2, k)))

free_lens : (o : Option Places) (ops : List LogEntry) (lens : List ℕ) → lens ≡ lengths ops → free o (length lens) ≡ free o (length ops)
free_lens o ops lens is = ap (λ (l : List ℕ). free o (length l)) is ∙ ap (free o) (length-map ops (λ (e : LogEntry). e.data_len))

pub fail_admitted : (old new : Crew) (ops : List LogEntry) (lens : List ℕ) (n a : ℕ) → lens ≡ lengths ops → FailOffers old ops n new → fail_admits old lens ≡ Some a → n ≤ a
fail_admitted old new ops lens n a is o e =
    let r = both_rooms (worker old 0).room (worker old 1).room (free old.ring (length lens)) a e in
    omega (arith, r.4, free_lens old.ring ops lens is, o.both, o.most, (o.cause r.0 r.2).0, (o.cause_behind r.1 r.3).0)

pub fail_stalls : (old new : Crew) (ops : List LogEntry) (lens : List ℕ) (n a : ℕ) → lens ≡ lengths ops → FailOffers old ops n new → fail_admits old lens ≡ Some a → n < a → Rose (stalls_of old) (stalls_of new)
fail_stalls old new ops lens n a is o e less =
    let r = both_rooms (worker old 0).room (worker old 1).room (free old.ring (length lens)) a e in
    let len = free_lens old.ring ops lens is in
    let all = free old.ring (length ops) in
    elim (below o.first (min all r.0)) [
      | inl fewer ↦ crew_stalls _ n old new 0 o.deals (omega (arith, o.two)) ((o.cause r.0 r.2).1 fewer)
      | inr more ↦ crew_stalls _ n old new 1 o.deals (omega (arith, o.two))
          ((o.cause_behind r.1 r.3).1 (omega (arith, r.4, len, less, more, o.both, (o.cause r.0 r.2).0, o.most)))
    ]
