-- Places of consecutive numbers in a ring of slots.
use Rattle.std.proofs.Common.{◌≡◌, ◌≢◌, ℕ, zero, suc, ◌+◌, ◌%◌, ◌<◌, ◌≤◌, ◌⊎◌, ⊎_elim, if◌then◌else◌, eq-eqb, ne_eqb, add-one, List, [], ◌∷◌, ◌++◌, length, take, refl, sym, ap, ◌∙◌, subst, arith, Option, Some, None}
use Rattle.std.specs.Prelude.{slice_get, slice_set, slice_index_or}
use native.Mathlib.Decide.{ℕ_discrete}
use Rattle.std.proofs.lemmas.List.{length_push, append_assoc, length-append, get_or-set_same, get_or-set_other, length-set}
use Rattle.std.proofs.lemmas.Option.{slice_get_within}
use Rattle.crypto_model.specs.Process.{Transform, processed}
use Rattle.crypto_op.specs.declared.op.Op.{Op}
use Rattle.crypto_op.specs.Op.{IsDone, made, request, input_of, answered}
use Rattle.flight_table.specs.declared.book.Drawn.{Drawn}
use Rattle.flight_table.specs.declared.rule.Sent.{Sent}
use Rattle.flight_table.specs.Note.{drawn_of}
use Rattle.flight_table.specs.View.{look, sent}
use Rattle.flight_table.proofs.Puts.{look_here, look_else}
use Rattle.sched_multicore.specs.declared.place.Trip.{Trip}
use Rattle.sched_multicore.specs.declared.place.Place.{Place}
use Rattle.sched_multicore.specs.declared.place.Place.TheVariants.{Away, Answered, Gone}
use Rattle.sched_multicore.specs.Place.{GivenList, unreturned, entries_at, IsPending, NoneGone, BeginsPending, span, at_worker, outstanding, Placed, Placing}
use Rattle.sched_multicore.specs.Queue.{Loaded}
use Rattle.sched_multicore.specs.Step.{answered_place}
use Rattle.sched_multicore.proofs.Lists.{far, mod_apart, get_front, get_last, get_snoc}

abbrev Sessions : Type 0
Sessions = List (List Transform)

module _ {C : Type 0} where
  -- a place keeps what holds of it while its slot's word and what was drawn stay
  pub kept_place : (slots : ℕ) (given given' : GivenList) (drawn drawn' : List Drawn) (ss : Sessions) (ws p : ℕ) (x : Place C)
      → look given' (p % slots) ≡ look given (p % slots) → ((e : Drawn) → slice_get drawn p ≡ Some e → slice_get drawn' p ≡ Some e)
      → Placed slots given drawn ss ws p x → Placed slots given' drawn' ss ws p x
  kept_place slots given given' drawn drawn' ss ws p (Away t) same more h = (same ∙ h.0, more _ h.1, h.2)
  kept_place slots given given' drawn drawn' ss ws p (Answered op) same more h = (same ∙ h.0, h.1)
  kept_place slots given given' drawn drawn' ss ws p Gone same more h = same ∙ h

  -- the next number's place
  pub place_push : (slots f ws : ℕ) (ss : Sessions) (given : GivenList) (drawn : List Drawn) (places : List (Place C)) (t : Trip C)
      → Placing slots f ws ss given drawn places → length places < slots → t.worker < ws
      → Placing slots f ws ss (((f + length places) % slots, Some (sent (f + length places) t.worker)) ∷ given) (drawn ++ drawn_of t.sent.value ∷ []) (places ++ Away t ∷ [])
  place_push slots f ws ss given drawn places t h room small =
      let n = length places in
      let k = (f + n) % slots in
      let s : Option Sent = Some (sent (f + n) t.worker) in
      let e = drawn_of t.sent.value in
      let l : length (places ++ Away t ∷ []) ≡ n + 1 = length_push places (Away t) in
      let m : length (drawn ++ e ∷ []) ≡ length drawn + 1 = length_push drawn e in
      record {
        all = omega (arith, l, m, h.all);
        fits = omega (arith, l, room);
        each = λ i x at. ⊎_elim
            (λ old. let within = slice_get_within places i x old in
            kept_place slots given ((k, s) ∷ given) drawn (drawn ++ e ∷ []) ss ws (f + i) x
            (look_else k s ((f + i) % slots) given (far slots f i n (omega (arith, within, room)) room (omega (arith, within))))
            (λ d. get_front drawn (e ∷ []) (f + i) d) (h.each i x old))
            (λ new. subst (λ z. Placed slots ((k, s) ∷ given) (drawn ++ e ∷ []) ss ws (f + i) z) (sym new.0)
            (subst (λ j. Placed slots ((k, s) ∷ given) (drawn ++ e ∷ []) ss ws (f + j) (Away t)) (sym new.1)
            (look_here k s given, subst (λ j. slice_get (drawn ++ e ∷ []) j ≡ Some e) (sym h.all) (get_last drawn e), small)))
            (get_snoc places (Away t) i x at);
        others = λ j lt off. look_else k s j given (λ same. off n (omega (arith, l)) (sym same)) ∙ h.others j lt (λ i li. off i (omega (arith, l, li)));
      }

  -- the first place goes, and its slot is the owner's
  pub place_pop : (slots f ws : ℕ) (ss : Sessions) (given given' : GivenList) (drawn : List Drawn) (x : Place C) (places : List (Place C))
      → Placing slots f ws ss given drawn (x ∷ places) → look given' (f % slots) ≡ None → ((j : ℕ) → j ≢ f % slots → look given' j ≡ look given j)
      → Placing slots (f + 1) ws ss given' drawn places
  place_pop slots f ws ss given given' drawn x places h none same =
      record {
        all = omega (arith, h.all);
        fits = omega (arith, h.fits);
        each = λ i y at. let within = slice_get_within places i y at in
            let q : f + suc i ≡ f + 1 + i = omega arith in
            subst (λ z. Placed slots given' drawn ss ws z y) q
            (kept_place slots given given' drawn drawn ss ws (f + suc i) y (same _ (mod_apart slots f (suc i) (omega arith) (omega (arith, within, h.fits)))) (λ d u. u) (h.each (suc i) y at));
        others = λ j lt off. go j lt off (ℕ_discrete j (f % slots));
      }
    where
      go : (j : ℕ) → j < slots → ((i : ℕ) → i < length places → (f + 1 + i) % slots ≢ j) → Dec (j ≡ f % slots) → look given' j ≡ None
      go j lt off (yes e) = ap (λ z. look given' z) e ∙ none
      go j lt off (no ne) = same j ne ∙ h.others j lt (λ i. at i)
        where
          at : (i : ℕ) → i < suc (length places) → (f + i) % slots ≢ j
          at zero li e = ne (sym (subst (λ z. z % slots ≡ j) (omega arith) e))
          at (suc i) li e = off i (omega (arith, li)) (subst (λ z. z % slots ≡ j) (omega arith) e)

  -- one place changes, and with it the word of its slot alone
  pub place_set : (slots f ws : ℕ) (ss : Sessions) (given given' : GivenList) (drawn : List Drawn) (places places' : List (Place C)) (i : ℕ) (y : Place C)
      → Placing slots f ws ss given drawn places → i < length places
      → ((j : ℕ) → j ≢ (f + i) % slots → look given' j ≡ look given j) → Placed slots given' drawn ss ws (f + i) y
      → length places' ≡ length places → ((j : ℕ) (x : Place C) → slice_get places' j ≡ Some x → (slice_get places j ≡ Some x × (j ≢ i)) ⊎ ((x ≡ y) × (j ≡ i)))
      → Placing slots f ws ss given' drawn places'
  place_set slots f ws ss given given' drawn places places' i y h close same new len split =
      record {
        all = omega (arith, len, h.all);
        fits = omega (arith, len, h.fits);
        each = λ j x at. ⊎_elim
            (λ old. let within = slice_get_within places j x old.0 in
            kept_place slots given given' drawn drawn ss ws (f + j) x (same _ (far slots f j i (omega (arith, within, h.fits)) (omega (arith, close, h.fits)) old.1)) (λ d u. u) (h.each j x old.0))
            (λ now. subst (λ z. Placed slots given' drawn ss ws (f + j) z) (sym now.0) (subst (λ z. Placed slots given' drawn ss ws (f + z) y) (sym now.1) new))
            (split j x at);
        others = λ j lt off. same j (λ e. off i (omega (arith, len, close)) (sym e)) ∙ h.others j lt (λ m lm. off m (omega (arith, len, lm)));
      }

  -- What is outstanding

  pub outstanding_append : (w : ℕ) (xs ys : List (Place C)) → outstanding w (xs ++ ys) ≡ outstanding w xs + outstanding w ys
  outstanding_append w [] ys = omega arith
  outstanding_append w (x ∷ xs) ys = let e = outstanding_append w xs ys in omega (arith, e)

  pub at_other : (w : ℕ) (t : Trip C) → w ≢ t.worker → at_worker w (Away t) ≡ 0
  at_other w t ne = ap (λ b. if b then 1 else 0) (ne_eqb w t.worker ne)

  pub at_own : (t : Trip C) → at_worker t.worker (Away t) ≡ 1
  at_own t = ap (λ b. if b then 1 else 0) (eq-eqb t.worker t.worker refl)

  pub outstanding_last : (w : ℕ) (xs : List (Place C)) (t : Trip C) → w ≢ t.worker → outstanding w (xs ++ Away t ∷ []) ≡ outstanding w xs
  outstanding_last w xs t ne = let e = outstanding_append w xs (Away t ∷ []) in let o = at_other w t ne in omega (arith, e, o)

  pub outstanding_more : (xs : List (Place C)) (t : Trip C) → outstanding t.worker (xs ++ Away t ∷ []) ≡ outstanding t.worker xs + 1
  outstanding_more xs t = let e = outstanding_append t.worker xs (Away t ∷ []) in let o = at_own t in omega (arith, e, o)

  pub outstanding_set : (w : ℕ) (xs : List (Place C)) (i : ℕ) (x y : Place C) → slice_get xs i ≡ Some x → outstanding w (slice_set xs i y) + at_worker w x ≡ outstanding w xs + at_worker w y
  outstanding_set w [] i x y e = absurd (cc)
  outstanding_set w (z ∷ zs) zero x y e = let s : at_worker w z ≡ at_worker w x = ap (λ u. at_worker w u) {x = z} {y = x} (cc) in omega (arith, s)
  outstanding_set w (z ∷ zs) (suc i) x y e = let s = outstanding_set w zs i x y e in omega (arith, s)

  pub loaded_set : (quota : ℕ) (loads : List ℕ) (places places' : List (Place C)) (v n : ℕ)
      → Loaded quota loads places → v < length loads → ((w : ℕ) → w ≢ v → outstanding w places' ≡ outstanding w places)
      → n ≡ outstanding v places' → n ≤ quota → Loaded quota (slice_set loads v n) places'
  loaded_set quota loads places places' v n h lt same here le w lw = go (ℕ_discrete w v)
    where
      go : Dec (w ≡ v) → (slice_index_or (slice_set loads v n) w 0 ≡ outstanding w places') × (slice_index_or (slice_set loads v n) w 0 ≤ quota)
      go (yes e) = let z : slice_index_or (slice_set loads v n) w 0 ≡ n = ap (λ u. slice_index_or (slice_set loads v n) u 0) e ∙ get_or-set_same loads v n 0 lt in
          (z ∙ here ∙ ap (λ u. outstanding u places') (sym e), omega (arith, z, le))
      go (no ne) = let z : slice_index_or (slice_set loads v n) w 0 ≡ slice_index_or loads w 0 = get_or-set_other loads v w n 0 ne in
          let o = h w (subst (λ u. w < u) (length-set loads v n) lw) in
          (z ∙ o.0 ∙ sym (same w ne), omega (arith, z, o.1))

  -- What is pending

  pub unreturned_append : (xs ys : List (Place C)) → unreturned (xs ++ ys) ≡ unreturned xs ++ unreturned ys
  unreturned_append [] ys = refl
  unreturned_append (x ∷ xs) ys = ap (λ l. entries_at x ++ l) (unreturned_append xs ys) ∙ sym (append_assoc (entries_at x) (unreturned xs) (unreturned ys))

  pub unreturned_set : (xs : List (Place C)) (i : ℕ) (x y : Place C) → slice_get xs i ≡ Some x → entries_at x ≡ entries_at y → unreturned (slice_set xs i y) ≡ unreturned xs
  unreturned_set [] i x y e o = absurd (cc)
  unreturned_set (z ∷ zs) zero x y e o = let s : z ≡ x = cc in ap (λ l. l ++ unreturned zs) (sym o ∙ ap (λ u. entries_at u) (sym s))
  unreturned_set (z ∷ zs) (suc i) x y e o = ap (λ l. entries_at z ++ l) (unreturned_set zs i x y e o)

  unreturned_next-suc : (xs : List (Place C)) (i : ℕ) (x : Place C) → slice_get xs i ≡ Some x → length (unreturned (take (suc i) xs)) ≡ length (unreturned (take i xs)) + length (entries_at x)
  unreturned_next-suc [] i x e = absurd (cc)
  unreturned_next-suc (z ∷ zs) zero x e = let s : z ≡ x = cc in let l = length-append (entries_at z) [] in let o = ap (λ u. length (entries_at u)) s in omega (arith, l, o)
  unreturned_next-suc (z ∷ zs) (suc i) x e =
      let s = unreturned_next-suc zs i x e in
      let a = length-append (entries_at z) (unreturned (take (suc i) zs)) in
      let b = length-append (entries_at z) (unreturned (take i zs)) in
      omega (arith, s, a, b)

  pub unreturned_next : (xs : List (Place C)) (i : ℕ) (x : Place C) → slice_get xs i ≡ Some x → length (unreturned (take (i + 1) xs)) ≡ length (unreturned (take i xs)) + length (entries_at x)
  unreturned_next xs i x e = rw add-one (unreturned_next-suc xs i x e)

  pub place_one : (x : Place C) → length (entries_at x) ≤ 1
  place_one (Away t) = omega arith
  place_one (Answered op) = omega arith
  place_one Gone = omega arith

  pub none_left : (xs : List (Place C)) → BeginsPending xs → unreturned xs ≡ [] → xs ≡ []
  none_left [] h e = refl
  none_left (Away t ∷ xs) h e = absurd (cc)
  none_left (Answered op ∷ xs) h e = absurd (cc)
  none_left (Gone ∷ xs) h e = absurd h

  pub none_push : (xs : List (Place C)) (t : Trip C) → NoneGone xs → NoneGone (xs ++ Away t ∷ [])
  none_push [] t h = (tt, tt)
  none_push (x ∷ xs) t h = (h.0, none_push xs t h.1)

  pub none_set : (xs : List (Place C)) (i : ℕ) (y : Place C) → IsPending y → NoneGone xs → NoneGone (slice_set xs i y)
  none_set [] i y a h = h
  none_set (x ∷ xs) zero y a h = (a, h.1)
  none_set (x ∷ xs) (suc i) y a h = (h.0, none_set xs i y a h.1)

  pub begins_push : (xs : List (Place C)) (t : Trip C) → BeginsPending xs → BeginsPending (xs ++ Away t ∷ [])
  begins_push [] t h = tt
  begins_push (x ∷ xs) t h = h

  pub span_begins : (xs : List (Place C)) → BeginsPending xs → span xs ≡ length xs
  span_begins [] h = refl
  span_begins (Away t ∷ xs) h = refl
  span_begins (Answered op ∷ xs) h = refl
  span_begins (Gone ∷ xs) h = absurd h

  -- a place that was away is answered
  pub span_set : (xs : List (Place C)) (i : ℕ) (t : Trip C) (op : Op C) → slice_get xs i ≡ Some (Away t) → span (slice_set xs i (Answered op)) ≡ span xs
  span_set [] i t op e = absurd (cc)
  span_set (x ∷ xs) zero t op e = let s : x ≡ Away t = cc in ap (λ z. span (z ∷ xs)) (sym s)
  span_set (Away u ∷ xs) (suc i) t op e = ap suc (length-set xs i (Answered op))
  span_set (Answered o ∷ xs) (suc i) t op e = ap suc (length-set xs i (Answered op))
  span_set (Gone ∷ xs) (suc i) t op e = span_set xs i t op e

  -- What lies where no worker has it

  pub held_at : (slots : ℕ) (given : GivenList) (drawn : List Drawn) (ss : Sessions) (ws p : ℕ) (o : Option (Op C)) → Placed slots given drawn ss ws p (answered_place o) → look given (p % slots) ≡ None
  held_at slots given drawn ss ws p (Some op) h = h.0
  held_at slots given drawn ss ws p None h = h

  pub none_with : (w : ℕ) (o : Option (Op C)) → at_worker w (answered_place o) ≡ 0
  none_with w (Some op) = refl
  none_with w None = refl

  pub all_gone : (xs : List (Place C)) → ((j : ℕ) → j < length xs → slice_get xs j ≡ Some Gone) → unreturned xs ≡ []
  all_gone [] h = refl
  all_gone (x ∷ xs) h =
      let s : x ≡ Gone = let z = h 0 (omega arith) in cc in
      ap (λ y. entries_at y ++ unreturned xs) s ∙ all_gone xs (λ j lt. h (suc j) (omega (arith, lt)))

-- an operation with another cargo
pub done_as : {A B : Type 0} (ss : Sessions) (a : Op A) (b : Op B) → b.spec ≡ a.spec → b.status ≡ a.status → b.chain ≡ a.chain → made b ≡ made a → IsDone ss a → IsDone ss b
done_as ss a b spec status chain same h = record {
  status = status ∙ h.status ∙ ap (λ m. (processed ss (input_of m)).status) (sym same);
  present = (λ i. request (spec i) (chain i)) ∙ h.present ∙ ap (λ m. answered (processed ss (input_of m)) m) (sym same);
}
