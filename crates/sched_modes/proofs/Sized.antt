-- A burst by packet size.
use Rattle.std.proofs.Common.{◌≡◌, ℕ, zero, suc, ◌-◌, ◌<◌, ◌≤◌, List, [], ◌∷◌, length, get_or, map, take, Option, None, Some, refl, ap, ◌∙◌, sym, subst, arith, length-take}
use Rattle.std.specs.Prelude.{slice_get}
use Rattle.std.proofs.lemmas.List.{length-map, take-map, take-take}
use Rattle.crypto_model.specs.Counts.{Rose}
use Rattle.crypto_op.specs.declared.op.Op.{Op}
use Rattle.crypto_op.specs.Op.{data_len_of}
use Rattle.crypto_op.specs.Burst.{Burst}
use Rattle.dev_core.specs.Burst.{front_log, lens, log_entry, offered}
use Rattle.dev_core.specs.declared.driver.Driver.{Ghosts}
use Rattle.dev_core.specs.declared.driver.LogEntry.{LogEntry}
use Rattle.sched_modes.specs.Admits.{room_for, size_admits}
use Rattle.sched_modes.specs.Crew.{Crew, DealsOut, Grew, Places, SizeOffers, account, free, lengths, of_size, share, size_worker, stalls_of, told, total, worker}
use Rattle.sched_modes.specs.Sizing.{HasStalled}
use Rattle.sched_modes.specs.Workers.{Serves}
use Rattle.sched_modes.proofs.Bursts.{free_le, length_front_log, length_told, lens_is, take_front_log}
use Rattle.sched_modes.proofs.Crews.{count_workers, crew_stalls, deals_out, of_worker}
use Rattle.sched_modes.proofs.Longest.{longest_le, longest_more, told_both}
use Rattle.sched_modes.proofs.Sizes.{size_below, total_sizes}

abbrev DealsSizes : {C D : Type 0} → Ghosts D C → ℕ → ℕ → List D → List D → (o o' : Option Places) → ℕ → List LogEntry → Type 0
DealsSizes m threshold w devs devs' o o' n es = DealsOut (λ k. of_size threshold k es) n (record { turn = 0; workers = map (account m) (take w devs); ring = o }) (record { turn = 0; workers = map (account m) (take w devs'); ring = o' })

none_some : (e : LogEntry) → None ≡ Some e → ⊥
none_some e f = cc

some_same : (a b : LogEntry) → Some a ≡ Some b → a ≡ b
some_same a b e = cc

entry_at : {C : Type 0} (n most : ℕ) (ops : List (Op C)) (e : LogEntry) → n < most → slice_get (map log_entry (take most ops)) n ≡ Some e → (op : Op C) × (slice_get ops n ≡ Some op) × (log_entry op ≡ e)
entry_at n zero ops e h f = absurd (omega (arith, h))
entry_at zero (suc most) [] e h f = absurd (none_some e f)
entry_at zero (suc most) (x ∷ ops) e h f = (x, refl, some_same _ _ f)
entry_at (suc n) (suc most) [] e h f = absurd (none_some e f)
entry_at (suc n) (suc most) (x ∷ ops) e h f = entry_at n most ops e (omega (arith, h)) f

pub size_offers : {C D : Type 0} (m : Ghosts D C) (threshold w : ℕ) (devs devs' : List D) (o o' : Option Places) (b : Burst (Op C)) (most n : ℕ) → w ≤ length devs → w ≡ 2 → n ≤ free o (offered most b)
    → Serves m (λ k. of_size threshold k (told o (front_log n b))) w devs devs' → Grew n o o'
    → ((k r : ℕ) (d : D) → m.room (get_or devs k d) ≡ Some r → (share threshold k (lens n b) ≤ r) × (m.room (get_or devs' k d) ≡ Some (r - share threshold k (lens n b))))
    → (n < free o (offered most b) → (op : Op C) → slice_get b.ops n ≡ Some op → HasStalled m (size_worker threshold (data_len_of op.spec)) devs devs')
    → SizeOffers threshold (record { turn = 0; workers = map (account m) (take w devs); ring = o }) (front_log most b) n (record { turn = 0; workers = map (account m) (take w devs'); ring = o' })
size_offers m threshold w devs devs' o o' b most n within two few s grew rooms cause =
    let all = length_front_log most b in
    let some = free_le o (offered most b) in
    let fewer : n ≤ offered most b = omega (arith, few, some) in
    let ops : List LogEntry = told o (front_log n b) in
    let front : take n (front_log most b) ≡ front_log n b = take_front_log n most b (omega (arith, fewer)) in
    let is : told o (take n (front_log most b)) ≡ ops = ap (told o) front in
    let measured : lengths (take n (front_log most b)) ≡ lens n b = ap lengths front ∙ sym (lens_is n b) in
    let sum : total w (λ k. length (of_size threshold k ops)) ≡ n = rw two (total_sizes threshold ops ∙ (length_told o (front_log n b) ∙ (length_front_log n b ∙ omega (arith, fewer)))) in
    let count = count_workers m w devs within in
    record {
      deals = subst (λ (es : List LogEntry). DealsSizes m threshold w devs devs' o o' n es) (sym is) (deals_out m (λ k. of_size threshold k ops) n w devs devs' 0 0 o o' within s sum);
      most = rw all few;
      ring = grew;
      two = count ∙ two;
      rooms = λ k r lt e. rw measured (of_worker m w devs devs' (λ x y. x.room ≡ Some r → (share threshold k (lens n b) ≤ r) × (y.room ≡ Some (r - share threshold k (lens n b)))) k (omega (arith, lt, two)) within s.len (λ d. rooms k r d) e);
      cause = λ less e r at told some.
          let less' : n < free o (offered most b) = rw all at less in
          let found = entry_at n most b.ops e (omega (arith, less', free_le o (offered most b))) at in
          let j : size_worker threshold (data_len_of found.0.spec) ≡ size_worker threshold e.data_len = ap (λ (x : LogEntry). size_worker threshold x.data_len) found.2 in
          let stalled = subst (λ (k : ℕ). HasStalled m k devs devs') j (cause less' found.0 found.1) in
          let lt : size_worker threshold e.data_len < w = (let l = size_below threshold e.data_len in omega (arith, l, two)) in
          of_worker m w devs devs' (λ x y. y.room ≡ Some r → Rose x.stalls y.stalls) (size_worker threshold e.data_len) lt within s.len (λ d now. stalled r d now some) told;
    }

take_lengths : (n : ℕ) (ops : List LogEntry) → take n (lengths ops) ≡ lengths (take n ops)
take_lengths n ops = take-map (λ (e : LogEntry). e.data_len) n ops

length_at : (n : ℕ) (ops : List LogEntry) → n < length ops → (e : LogEntry) × (slice_get ops n ≡ Some e) × (get_or (lengths ops) n 0 ≡ e.data_len)
length_at n [] h = absurd (omega (arith, h))
length_at zero (e ∷ ops) h = (e, refl, refl)
length_at (suc n) (e ∷ ops) h = length_at n ops (omega (arith, h))

get_take : (n k : ℕ) (ls : List ℕ) → n < k → get_or (take k ls) n 0 ≡ get_or ls n 0
get_take n zero ls h = absurd (omega (arith, h))
get_take n (suc k) [] h = refl
get_take zero (suc k) (l ∷ ls) h = refl
get_take (suc n) (suc k) (l ∷ ls) h = get_take n k ls (omega (arith, h))

room_of_two : (c : Crew) (j r s : ℕ) → j < 2 → (worker c 0).room ≡ Some r → (worker c 1).room ≡ Some s → (worker c j).room ≡ Some (room_for j r s)
room_of_two c zero r s h a b = a
room_of_two c (suc zero) r s h a b = b
room_of_two c (suc (suc j)) r s h a b = absurd (omega (arith, h))

pub size_admitted : (t : ℕ) (old new : Crew) (ops : List LogEntry) (ls : List ℕ) (n a : ℕ) → ls ≡ lengths ops → SizeOffers t old ops n new → size_admits t old ls ≡ Some a → n ≤ a
size_admitted t old new ops ls n a is o e =
    let fw = free old.ring (length ls) in
    let r = told_both t (worker old 0).room (worker old 1).room (take fw ls) a e in
    let len : length ls ≡ length ops = ap length is ∙ length-map ops (λ (e : LogEntry). e.data_len) in
    let within : n ≤ fw = subst (λ (x : ℕ). n ≤ free old.ring x) (sym len) o.most in
    let front : take n (take fw ls) ≡ lengths (take n ops) = take-take n fw ls within ∙ (ap (take n) is ∙ take_lengths n ops) in
    let few = free_le old.ring (length ops) in
    let le = longest_le t r.0 r.1 n (take fw ls) (omega (arith, length-take fw ls, within, len, o.most, few)) (rw front (o.rooms 0 r.0 (omega arith) r.2).0) (rw front (o.rooms 1 r.1 (omega arith) r.3).0) in
    omega (arith, le, r.4)

pub size_stalls : (t : ℕ) (old new : Crew) (ops : List LogEntry) (ls : List ℕ) (n a : ℕ) → ls ≡ lengths ops → SizeOffers t old ops n new → size_admits t old ls ≡ Some a → n < a → Rose (stalls_of old) (stalls_of new)
size_stalls t old new ops ls n a is o e less =
    let fw = free old.ring (length ls) in
    let r = told_both t (worker old 0).room (worker old 1).room (take fw ls) a e in
    let len : length ls ≡ length ops = ap length is ∙ length-map ops (λ (e : LogEntry). e.data_len) in
    let within : n ≤ fw = subst (λ (x : ℕ). n ≤ free old.ring x) (sym len) o.most in
    let front : take n (take fw ls) ≡ lengths (take n ops) = take-take n fw ls within ∙ (ap (take n) is ∙ take_lengths n ops) in
    let more = longest_more t r.0 r.1 n (take fw ls) (omega (arith, less, r.4)) in
    let below : n < length ops = omega (arith, more.0, length-take fw ls, len) in
    let under : n < fw = omega (arith, more.0, length-take fw ls) in
    let free_is : n < free old.ring (length ops) = subst (λ (x : ℕ). n < free old.ring x) len under in
    let next = length_at n ops below in
    let j = size_worker t next.0.data_len in
    let is_next : get_or (take fw ls) n 0 ≡ next.0.data_len = get_take n fw ls under ∙ (ap (λ (l : List ℕ). get_or l n 0) is ∙ next.2) in
    let left : share t j (lengths (take n ops)) < room_for j r.0 r.1 = rw (is_next, front) at more.1 in
    let two : j < 2 = size_below t next.0.data_len in
    let now = (o.rooms j (room_for j r.0 r.1) two (room_of_two old j r.0 r.1 two r.2 r.3)).1 in
    crew_stalls _ n old new j o.deals (omega (arith, two, o.two)) (o.cause free_is next.0 (room_for j r.0 r.1 - share t j (lengths (take n ops))) next.1 now (omega (arith, left)))
