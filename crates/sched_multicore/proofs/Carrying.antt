-- What a worker carries, in any order, when one more is taken or one is handed on.
use Rattle.std.proofs.Common.{arith, ◌≡◌, ◌≢◌, ℕ, zero, suc, List, [], ◌∷◌, ◌⊎◌, inl, inr, ⊎_elim, length, refl, ap, sym, ◌∙◌, ◌%◌, ◌/◌, ◌*◌, ◌+◌, ◌<◌, ◌≤◌, ◌==◌, if◌then◌else◌, subst, eq-eqb, ne_eqb, Option, Some, None}
use Rattle.std.specs.Prelude.{slice_get, slice_set, slice_index_or}
use Rattle.std.specs.List.{All}
use native.Mathlib.Decide.{ℕ_discrete, dec_lt}
use Rattle.std.specs.List.Sorted.{IsPermutation}
use Rattle.std.proofs.lemmas.List.Sorted.{All-permutation, sum_by-IsPermutation, sum_by_pushed, IsPermutation-refl}
use Rattle.std.proofs.lemmas.List.Elements.{All-cons}
use Rattle.std.proofs.lemmas.List.{length-set, get_or-set_same, get_or-set_other}
use Rattle.std.proofs.lemmas.Option.{slice_get_within}
use Rattle.std.proofs.lemmas.Nat.{div-mul-add, mod-mul-add}
use Rattle.std.proofs.Math.Nat.{div-add-mod, mod-lt, mul-le-mul_left, mul-suc}
use Rattle.crypto_model.specs.Process.{Transform}
use Rattle.flight_table.specs.Call.{Desk}
use Rattle.flight_table.specs.View.{look}
use Rattle.flight_table.proofs.Puts.{look_here, look_else}
use Rattle.sched_multicore.specs.Carry.{AreHandsOf, Carried, Carries, IsFree, IsHandOf, Parcel, coded, drawn_as, finished_sum, one_if}

-- the same in another order
pub carried_permutation : (worker slots : ℕ) (sessions : List (List Transform)) (hands : List Desk) (saved : List ℕ) (held held' : List Parcel)
    → IsPermutation held held' → Carried worker slots sessions hands saved held → Carried worker slots sessions hands saved held'
carried_permutation worker slots sessions hands saved held held' p h = record {
  some = h.some;
  sized = h.sized;
  each = All-permutation (Carries slots hands saved) held held' p h.each;
  counted = λ k j d at lt. sum_by-IsPermutation (λ (x : Parcel). if k * slots + j == x.pos then 1 else 0) held held' p ∙ h.counted k j d at lt;
  wide = h.wide;
}

-- A hand changes

pub hand_split : (xs : List Desk) (i : ℕ) (y : Desk) (j : ℕ) (x : Desk) → slice_get (slice_set xs i y) j ≡ Some x → (slice_get xs j ≡ Some x × (j ≢ i)) ⊎ ((x ≡ y) × (j ≡ i))
hand_split [] i y j x e = absurd (cc)
hand_split (z ∷ zs) zero y zero x e = inr (cc, refl)
hand_split (z ∷ zs) zero y (suc j) x e = inl (e, λ n. omega (arith, n))
hand_split (z ∷ zs) (suc i) y zero x e = inl (e, λ n. omega (arith, n))
hand_split (z ∷ zs) (suc i) y (suc j) x e = go (hand_split zs i y j x e)
  where
    go : (slice_get zs j ≡ Some x × (j ≢ i)) ⊎ ((x ≡ y) × (j ≡ i)) → (slice_get zs j ≡ Some x × (suc j ≢ suc i)) ⊎ ((x ≡ y) × (suc j ≡ suc i))
    go (inl a) = inl (a.0, λ n. a.1 (omega (arith, n)))
    go (inr a) = inr (a.0, ap suc a.1)

pub sum_set : (xs : List Desk) (i : ℕ) (d e : Desk) → slice_get xs i ≡ Some d → finished_sum (slice_set xs i e) + d.view.finished ≡ finished_sum xs + e.view.finished
sum_set [] i d e at = absurd (cc)
sum_set (z ∷ zs) zero d e at = let s : z ≡ d = cc in let f = ap (λ (u : Desk). u.view.finished) s in omega (arith, f)
sum_set (z ∷ zs) (suc i) d e at = let s = sum_set zs i d e at in omega (arith, s)

pub get_some : (xs : List Desk) (i : ℕ) → i < length xs → (x : Desk) × (slice_get xs i ≡ Some x)
get_some [] i lt = absurd (omega (arith, lt))
get_some (x ∷ xs) zero lt = (x, refl)
get_some (x ∷ xs) (suc i) lt = get_some xs i (omega (arith, lt))

-- the hand that is lent
pub lent_hand : (xs : List Desk) (h : ℕ) (d : Desk) → h < length xs → d ≡ slice_index_or xs h d → slice_get xs h ≡ Some d
lent_hand [] h d lt e = absurd (omega (arith, lt))
lent_hand (x ∷ xs) zero d lt e = ap (λ (z : Desk). Some z) (sym e)
lent_hand (x ∷ xs) (suc h) d lt e = lent_hand xs h d (omega (arith, lt)) e

pub set_hand : (xs : List Desk) (i : ℕ) (y : Desk) → i < length xs → slice_get (slice_set xs i y) i ≡ Some y
set_hand [] i y lt = absurd (omega (arith, lt))
set_hand (z ∷ zs) zero y lt = refl
set_hand (z ∷ zs) (suc i) y lt = set_hand zs i y (omega (arith, lt))

pub same_hand : (xs : List Desk) (h : ℕ) (d e : Desk) → slice_get xs h ≡ Some d → slice_get xs h ≡ Some e → d ≡ e
same_hand xs h d e a b = let s = sym a ∙ b in cc

pub any_default : (xs : List ℕ) (i d e : ℕ) → i < length xs → slice_index_or xs i d ≡ slice_index_or xs i e
any_default [] i d e lt = absurd (omega (arith, lt))
any_default (x ∷ xs) zero d e lt = refl
any_default (x ∷ xs) (suc i) d e lt = any_default xs i d e (omega (arith, lt))

-- Codes

-- a code is of one hand and slot
pub code_eq : (slots h k i j : ℕ) → k < slots → j < slots → h * slots + k ≡ i * slots + j → (h ≡ i) × (k ≡ j)
code_eq slots h k i j lk lj e =
    (sym (div-mul-add h slots k lk) ∙ ap (λ z. z / slots) e ∙ div-mul-add i slots j lj, sym (mod-mul-add h slots k lk) ∙ ap (λ z. z % slots) e ∙ mod-mul-add i slots j lj)

pub code_of : (slots p : ℕ) → p / slots * slots + p % slots ≡ p
code_of slots p = let d = div-add-mod p slots in let m : p / slots * slots ≡ slots * (p / slots) = omega arith in omega (arith, d, m)

pub code_small : (slots n h k : ℕ) → h < n → k < slots → h * slots + k < n * slots
code_small slots n h k lh lk =
    let m : slots * suc h ≤ slots * n = mul-le-mul_left slots (omega (arith, lh)) in
    let s : slots * suc h ≡ slots * h + slots = mul-suc slots h in
    let a : slots * h ≡ h * slots = omega arith in
    let b : slots * n ≡ n * slots = omega arith in
    omega (arith, m, s, a, b, lk)

pub hand_of : (slots n p : ℕ) → p < n * slots → p / slots < n
hand_of slots n p lt = go (dec_lt (p / slots) n)
  where
    go : Dec (p / slots < n) → p / slots < n
    go (yes l) = l
    go (no l) =
        let m : slots * n ≤ slots * (p / slots) = mul-le-mul_left slots (omega (arith, l)) in
        let d = div-add-mod p slots in
        let a : slots * n ≡ n * slots = omega arith in
        absurd (omega (arith, m, d, a, lt))

-- How many have a code

coded_cons : (c : ℕ) (x : Parcel) (xs : List Parcel) → coded c (x ∷ xs) ≡ (if c == x.pos then 1 else 0) + coded c xs
coded_cons c x xs = sum_by_pushed (λ (x : Parcel). if c == x.pos then 1 else 0) x xs (x ∷ xs) (IsPermutation-refl (x ∷ xs))

coded_here : (c : ℕ) (x : Parcel) (xs : List Parcel) → x.pos ≡ c → coded c (x ∷ xs) ≡ suc (coded c xs)
coded_here c x xs e = let o = ap (λ b. (if b then 1 else 0) + coded c xs) (eq-eqb c x.pos (sym e)) in let z = coded_cons c x xs in omega (arith, o, z)

coded_else : (c : ℕ) (x : Parcel) (xs : List Parcel) → x.pos ≢ c → coded c (x ∷ xs) ≡ coded c xs
coded_else c x xs ne = let o = ap (λ b. (if b then 1 else 0) + coded c xs) (ne_eqb c x.pos (λ e. ne (sym e))) in let z = coded_cons c x xs in omega (arith, o, z)

-- none has this code
not_coded : (c : ℕ) (xs : List Parcel) → coded c xs ≡ 0 → All (λ x. x.pos ≢ c) xs
not_coded c [] e = λ k d lt. absurd (omega (arith, lt))
not_coded c (x ∷ xs) e = All-cons (λ (x : Parcel). x.pos ≢ c) x xs
    (λ same. let z = coded_here c x xs same in omega (arith, e, z))
    (not_coded c xs (go (ℕ_discrete x.pos c)))
  where
    go : Dec (x.pos ≡ c) → coded c xs ≡ 0
    go (yes same) = let z = coded_here c x xs same in absurd (omega (arith, e, z))
    go (no ne) = sym (coded_else c x xs ne) ∙ e

all_zip : {X : Type 0} (P Q R : X → Type 0) (xs : List X) → ((x : X) → P x → Q x → R x) → All P xs → All Q xs → All R xs
all_zip P Q R xs f p q k d lt = f (slice_index_or xs k d) (p k d lt) (q k d lt)

-- A slot's listing changes

-- how a hand stands after it took or gave a slot: only that slot's listing is another
pub record Lists (k : ℕ) (n : Option ℕ) (d e : Desk) : Type 0 where
  pub slots : e.slots ≡ d.slots
  pub worker : e.view.worker ≡ d.view.worker
  pub about : e.view.about ≡ d.view.about
  pub taken : e.view.taken ≡ (k, n) ∷ d.view.taken

-- what another operation's facts become
kept : (slots h k : ℕ) (n : Option ℕ) (hands : List Desk) (saved saved' : List ℕ) (d e : Desk) (x : Parcel) → slice_get hands h ≡ Some d → Lists k n d e → k < slots
    → x.pos ≢ h * slots + k → (x.pos ≢ h * slots + k → slice_index_or saved' x.pos 0 ≡ slice_index_or saved x.pos 0)
    → Carries slots hands saved x → Carries slots (slice_set hands h e) saved' x
kept slots h k n hands saved saved' d e x at l lt ne same o = record {
  small = let z = length-set hands h e in subst (λ m. x.pos < m * slots) (sym z) o.small;
  listed = λ f got. ⊎_elim
      (λ old. let r = o.listed f old.0 in (r.0, r.1, r.2 ∙ ap (λ z. Some (drawn_as x.request z)) (sym (same ne))))
      (λ new. let r = o.listed d (ap (λ z. slice_get hands z) new.1 ∙ at) in
      let away : x.pos % slots ≢ k = λ m. ne (sym (code_of slots x.pos) ∙ (λ j. new.1 j * slots + m j)) in (
        ap (λ (z : Desk). look z.view.taken (x.pos % slots)) new.0 ∙ ap (λ z. look z (x.pos % slots)) l.taken ∙ look_else k n (x.pos % slots) d.view.taken away ∙ r.0,
        r.1 ∙ sym (ap (λ (z : Desk). z.view.about.table) new.0 ∙ ap (λ z. z.table) l.about),
        r.2 ∙ ap (λ z. Some (drawn_as x.request z)) (sym (same ne)),
      ))
      (hand_split hands h e (x.pos / slots) f got);
}

sized_set : (worker slots : ℕ) (sessions : List (List Transform)) (h k : ℕ) (n : Option ℕ) (hands : List Desk) (d e : Desk) → AreHandsOf worker slots sessions hands
    → slice_get hands h ≡ Some d → Lists k n d e → AreHandsOf worker slots sessions (slice_set hands h e)
sized_set worker slots sessions h k n hands d e s at l j f got = ⊎_elim
    (λ old. s j f old.0)
    (λ new. let r = s h d at in record {
      worker = ap (λ (z : Desk). z.view.worker) new.0 ∙ l.worker ∙ r.worker;
      slots = ap (λ (z : Desk). z.slots) new.0 ∙ l.slots ∙ r.slots;
      sessions = ap (λ (z : Desk). z.view.about.sessions) new.0 ∙ ap (λ a. a.sessions) l.about ∙ r.sessions;
    })
    (hand_split hands h e j f got)

-- an operation was taken
pub carried_more : (worker slots : ℕ) (sessions : List (List Transform)) (h k : ℕ) (hands : List Desk) (saved : List ℕ) (held : List Parcel) (d e : Desk) (p : ℕ) (x : Parcel)
    → Carried worker slots sessions hands saved held → slice_get hands h ≡ Some d → k < slots → look d.view.taken k ≡ None → Lists k (Some x.cargo.number) d e → x.pos ≡ h * slots + k
    → x.cargo.book ≡ d.view.about.table → x.cargo.entry ≡ Some (drawn_as x.request p)
    → Carried worker slots sessions (slice_set hands h e) (slice_set saved (h * slots + k) p) (x ∷ held)
carried_more worker slots sessions h k hands saved held d e p x o at lt free l pos book made =
    let c = h * slots + k in
    let within : h < length hands = slice_get_within hands h d at in
    let room : c < length saved = subst (λ m. c < m) (sym o.wide) (code_small slots (length hands) h k within lt) in
    let none : coded c held ≡ 0 = o.counted h k d at lt ∙ ap one_if free in
    let len = length-set hands h e in
    let div : x.pos / slots ≡ h = ap (λ z. z / slots) pos ∙ div-mul-add h slots k lt in
    let rem : x.pos % slots ≡ k = ap (λ z. z % slots) pos ∙ mod-mul-add h slots k lt in
    let saves : slice_index_or (slice_set saved c p) x.pos 0 ≡ p = ap (λ z. slice_index_or (slice_set saved c p) z 0) pos ∙ get_or-set_same saved c p 0 room in
    record {
      some = o.some;
      sized = sized_set worker slots sessions h k (Some x.cargo.number) hands d e o.sized at l;
      each = All-cons (Carries slots (slice_set hands h e) (slice_set saved c p)) x held
          (record {
            small = subst (λ m. x.pos < m * slots) (sym len) (subst (λ z. z < length hands * slots) (sym pos) (subst (λ z. c < z) o.wide room));
            listed = λ f got. ⊎_elim
                (λ old. absurd (old.1 div))
                (λ same. (
                  ap (λ (z : Desk). look z.view.taken (x.pos % slots)) same.0 ∙ (λ j. look (l.taken j) (rem j)) ∙ look_here k (Some x.cargo.number) d.view.taken,
                  book ∙ sym (ap (λ (z : Desk). z.view.about.table) same.0 ∙ ap (λ z. z.table) l.about),
                  made ∙ ap (λ z. Some (drawn_as x.request z)) (sym saves),
                ))
                (hand_split hands h e (x.pos / slots) f got);
          })
          (all_zip (λ x. x.pos ≢ c) (Carries slots hands saved) (Carries slots (slice_set hands h e) (slice_set saved c p)) held
          (λ y ne r. kept slots h k (Some x.cargo.number) hands saved (slice_set saved c p) d e y at l lt ne (λ u. get_or-set_other saved c y.pos p 0 u) r) (not_coded c held none) o.each);
      counted = λ i j f got lj. ⊎_elim
          (λ old. let away : x.pos ≢ i * slots + j = λ u. old.1 (code_eq slots i j h k lj lt (sym u ∙ pos)).0 in coded_else (i * slots + j) x held away ∙ o.counted i j f old.0 lj)
          (λ same. slot i j f lj same (ℕ_discrete j k))
          (hand_split hands h e i f got);
      wide = length-set saved c p ∙ o.wide ∙ ap (λ m. m * slots) (sym len);
    }
  where
    slot : (i j : ℕ) (f : Desk) → j < slots → (f ≡ e) × (i ≡ h) → Dec (j ≡ k) → coded (i * slots + j) (x ∷ held) ≡ one_if (look f.view.taken j)
    slot i j f lj same (yes q) =
        let c : x.pos ≡ i * slots + j = pos ∙ (λ y. sym same.1 y * slots + sym q y) in
        let none : coded (i * slots + j) held ≡ 0 = ap (λ z. coded z held) (sym c ∙ pos) ∙ o.counted h k d at lt ∙ ap one_if free in
        let listed : look f.view.taken j ≡ Some x.cargo.number = ap (λ (z : Desk). look z.view.taken j) same.0 ∙ (λ y. look (l.taken y) (q y)) ∙ look_here k (Some x.cargo.number) d.view.taken in
        coded_here (i * slots + j) x held c ∙ ap suc none ∙ sym (ap one_if listed)
    slot i j f lj same (no ne) =
        let away : x.pos ≢ i * slots + j = λ u. ne (code_eq slots i j h k lj lt (sym u ∙ pos)).1 in
        let listed : look f.view.taken j ≡ look d.view.taken j = ap (λ (z : Desk). look z.view.taken j) same.0 ∙ ap (λ z. look z j) l.taken ∙ look_else k (Some x.cargo.number) j d.view.taken ne in
        coded_else (i * slots + j) x held away ∙ o.counted i j d (ap (λ z. slice_get hands z) same.1 ∙ at) lj ∙ ap one_if (sym listed)

-- an operation was finished or given back
pub carried_less : (worker slots : ℕ) (sessions : List (List Transform)) (hands : List Desk) (saved : List ℕ) (held : List Parcel) (d e : Desk) (x : Parcel)
    → Carried worker slots sessions hands saved (x ∷ held) → slice_get hands (x.pos / slots) ≡ Some d → Lists (x.pos % slots) None d e
    → Carried worker slots sessions (slice_set hands (x.pos / slots) e) saved held
carried_less worker slots sessions hands saved held d e x o at l =
    let h = x.pos / slots in
    let k = x.pos % slots in
    let lt : k < slots = mod-lt x.pos o.some in
    let c = code_of slots x.pos in
    let mine = (o.each 0 x (omega arith)).listed d at in
    let one = o.counted h k d at lt ∙ ap one_if mine.0 in
    let none : coded (h * slots + k) held ≡ 0 = let u = coded_here (h * slots + k) x held (sym c) in omega (arith, u, one) in
    let len = length-set hands h e in
    let others : All (Carries slots hands saved) held = λ i y li. o.each (suc i) y (omega (arith, li)) in
    record {
      some = o.some;
      sized = sized_set worker slots sessions h k None hands d e o.sized at l;
      each = all_zip (λ y. y.pos ≢ h * slots + k) (Carries slots hands saved) (Carries slots (slice_set hands h e) saved) held
          (λ y ne r. kept slots h k None hands saved saved d e y at l lt ne (λ u. refl) r) (not_coded (h * slots + k) held none) others;
      counted = λ i j f got lj. ⊎_elim
          (λ old. let away : x.pos ≢ i * slots + j = λ u. old.1 (code_eq slots i j h k lj lt (sym u ∙ sym c)).0 in sym (coded_else (i * slots + j) x held away) ∙ o.counted i j f old.0 lj)
          (λ same. slot none i j f lj same (ℕ_discrete j k))
          (hand_split hands h e i f got);
      wide = o.wide ∙ ap (λ m. m * slots) (sym len);
    }
  where
    slot : coded (x.pos / slots * slots + x.pos % slots) held ≡ 0 → (i j : ℕ) (f : Desk) → j < slots → (f ≡ e) × (i ≡ x.pos / slots) → Dec (j ≡ x.pos % slots)
        → coded (i * slots + j) held ≡ one_if (look f.view.taken j)
    slot none i j f lj same (yes q) =
        let listed : look f.view.taken j ≡ None = ap (λ (z : Desk). look z.view.taken j) same.0 ∙ (λ y. look (l.taken y) (q y)) ∙ look_here (x.pos % slots) None d.view.taken in
        (λ y. coded (same.1 y * slots + q y) held) ∙ none ∙ sym (ap one_if listed)
    slot none i j f lj same (no ne) =
        let away : x.pos ≢ i * slots + j = λ u. ne (code_eq slots i j (x.pos / slots) (x.pos % slots) lj (mod-lt x.pos o.some) (sym u ∙ sym (code_of slots x.pos))).1 in
        let listed : look f.view.taken j ≡ look d.view.taken j = ap (λ (z : Desk). look z.view.taken j) same.0 ∙ ap (λ z. look z j) l.taken ∙ look_else (x.pos % slots) None j d.view.taken ne in
        sym (coded_else (i * slots + j) x held away) ∙ o.counted i j d (ap (λ z. slice_get hands z) same.1 ∙ at) lj ∙ ap one_if (sym listed)

-- a hand that only looked
pub carried_kept : (worker slots : ℕ) (sessions : List (List Transform)) (h : ℕ) (hands : List Desk) (saved : List ℕ) (held : List Parcel) (d e : Desk)
    → Carried worker slots sessions hands saved held → slice_get hands h ≡ Some d
    → e.slots ≡ d.slots → e.view.worker ≡ d.view.worker → e.view.about ≡ d.view.about → e.view.taken ≡ d.view.taken → Carried worker slots sessions (slice_set hands h e) saved held
carried_kept worker slots sessions h hands saved held d e o at slots' worker' about taken =
    let len = length-set hands h e in
    record {
      some = o.some;
      sized = λ j f got. ⊎_elim
          (λ old. o.sized j f old.0)
          (λ new. let r = o.sized h d at in record {
            worker = ap (λ (z : Desk). z.view.worker) new.0 ∙ worker' ∙ r.worker;
            slots = ap (λ (z : Desk). z.slots) new.0 ∙ slots' ∙ r.slots;
            sessions = ap (λ (z : Desk). z.view.about.sessions) new.0 ∙ ap (λ a. a.sessions) about ∙ r.sessions;
          })
          (hand_split hands h e j f got);
      each = λ i y li. one (slice_index_or held i y) (o.each i y li);
      counted = λ i j f got lj. ⊎_elim
          (λ old. o.counted i j f old.0 lj)
          (λ new. o.counted i j d (ap (λ z. slice_get hands z) new.1 ∙ at) lj ∙ ap one_if (sym (ap (λ (z : Desk). look z.view.taken j) new.0 ∙ ap (λ l. look l j) taken)))
          (hand_split hands h e i f got);
      wide = o.wide ∙ ap (λ m. m * slots) (sym len);
    }
  where
    one : (x : Parcel) → Carries slots hands saved x → Carries slots (slice_set hands h e) saved x
    one x r = record {
      small = subst (λ m. x.pos < m * slots) (sym (length-set hands h e)) r.small;
      listed = λ f got. ⊎_elim
          (λ old. r.listed f old.0)
          (λ new. let q = r.listed d (ap (λ z. slice_get hands z) new.1 ∙ at) in
          (ap (λ (z : Desk). look z.view.taken (x.pos % slots)) new.0 ∙ ap (λ l. look l (x.pos % slots)) taken ∙ q.0, q.1 ∙ sym (ap (λ (z : Desk). z.view.about.table) new.0 ∙ ap (λ z. z.table) about), q.2))
          (hand_split hands h e (x.pos / slots) f got);
    }

pub all_hands : (P : Desk → Type 0) (hands : List Desk) → ((h : ℕ) (d : Desk) → slice_get hands h ≡ Some d → P d) → All P hands
all_hands P hands each i d lt = let x = get_some hands i lt in subst P (there hands i x.0 d x.1) (each i x.0 x.1)
  where
    there : (xs : List Desk) (i : ℕ) (x d : Desk) → slice_get xs i ≡ Some x → x ≡ slice_index_or xs i d
    there [] i x d e = absurd (cc)
    there (y ∷ ys) zero x d e = cc
    there (y ∷ ys) (suc i) x d e = there ys i x d e

-- the hands of a worker that carries nothing list nothing
pub carried_free : (worker slots : ℕ) (sessions : List (List Transform)) (hands : List Desk) (saved : List ℕ) (held : List Parcel) → Carried worker slots sessions hands saved held → held ≡ []
    → All (IsFree slots) hands
carried_free worker slots sessions hands saved held o none =
    all_hands (IsFree slots) hands (λ h d at k lt. unlisted (look d.view.taken k) (sym (o.counted h k d at lt) ∙ ap (coded (h * slots + k)) none))
  where
    unlisted : (n : Option ℕ) → one_if n ≡ 0 → n ≡ None
    unlisted None e = refl
    unlisted (Some n) e = absurd (omega (arith, e))

pub carried_own : (worker slots : ℕ) (sessions : List (List Transform)) (hands : List Desk) (saved : List ℕ) (held : List Parcel) → Carried worker slots sessions hands saved held
    → All (IsHandOf worker slots sessions) hands
carried_own worker slots sessions hands saved held o = all_hands (IsHandOf worker slots sessions) hands o.sized
