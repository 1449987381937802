-- Each kind of step of a hand keeps the rule.
use Rattle.std.proofs.Common.{◌≡◌, ◌≢◌, ℕ, ◌+◌, ◌<◌, eqb, [], ◌∷◌, length, set, get_or, inl, inr, refl, sym, ap, ◌∙◌, subst, ⊎_elim, arith, length-set, Some, None}
use mathlib.Core.Option.{some}
use mathlib.Core.Option as maybe
use prog.Atomic.{either}
use lib.ListN.{get_elem?}
use Rattle.atomic_table.specs.Table.{Act, Valid, stepped, carried_after, step, keeps, takes, gives, Allows}
use Rattle.atomic_table.proofs.Lists.{set_here, set_else, exchanged}
use Rattle.flight_table.specs.Note.{BookData}
use Rattle.flight_table.specs.declared.word.Phase.TheVariants.{Ready, Taken, Done, Back}
use Rattle.flight_table.specs.declared.rule.Role.TheVariants.{Owns, Takes}
use Rattle.flight_table.specs.declared.rule.FlightView.{FlightView}
use Rattle.flight_table.specs.Word.{word, packed, unpacked}
use Rattle.flight_table.specs.View.{look, looked, grabbed, at_home, listed, unlisted, ended}
use Rattle.flight_table.specs.Rule.{Flying, Slot, Cell, ready, taken, done, back, listing, Waiting, Finished, SlotOk, is_done, SeatOk, InFlight}
use Rattle.flight_table.specs.Call.{M, looks, takes_one, rests, grabs, finishes, gives_back}
use Rattle.flight_table.proofs.Puts.{put, at_put, put_here, look_here, look_else, idle, elsewhere}
use Rattle.flight_table.proofs.Cells.{reads, says, is_packed, is_ready, is_taken, listing_here, listing_else, done_here, done_else}
use Rattle.flight_table.proofs.Moves.{St, slot_on, hand_moves}

-- a seat can step so that the word k becomes x
abbrev pub Goes : BookData → St → ℕ → ℕ → M → (M → Type 0) → ℕ → Type 0
Goes about s k id me told x = (w : FlightView) × (a : Act Slot) × Valid s.homes me.1 a × InFlight about (stepped s k x id me.1 w a) × told (w, carried_after me.1 a)

-- what a seat's view says in the rule
module _ (about : BookData) (s : St) (r : InFlight about s) (id : ℕ) (v : FlightView) (at : get_elem? s.views id ≡ some v) where
  pub known_hand : v.role ≡ Takes → r.hand v.worker ≡ v
  known_hand role = sym (subst (SeatOk r.owner r.o r.seat_of r.hand id v) role (r.each_seat id v at)).2

  pub known_owner : v.role ≡ Owns → r.o ≡ v
  known_owner owns = sym (subst (SeatOk r.owner r.o r.seat_of r.hand id v) owns (r.each_seat id v at)).1

-- a hand's step under a taken word finishes nothing
steady : (hand : ℕ → FlightView) (v h : FlightView) (old new : Cell) → hand v.worker ≡ v → h.finished ≡ v.finished → ((w : ℕ) → is_done w old ≡ is_done w new)
    → (w : ℕ) → (put hand v.worker h w).finished + is_done w old ≡ (hand w).finished + is_done w new
steady hand v h old new is same none w = at_put hand v.worker h (λ i y. y.finished + is_done i old ≡ (hand i).finished + is_done i new) w
    (let n = none v.worker in let b : (hand v.worker).finished ≡ v.finished = ap (λ z. z.finished) is in omega (arith, n, b, same))
    (λ _. let n = none w in omega (arith, n))

-- the lists of numbers taken at k, where one hand's is changed to what the new cell says
lists_at : (hand : ℕ → FlightView) (k : ℕ) (v h : FlightView) (old new : Cell) → ((w : ℕ) → look (hand w).taken k ≡ listing old w) → look h.taken k ≡ listing new v.worker → ((w : ℕ) → w ≢ v.worker → listing old w ≡ listing new w)
    → (w : ℕ) → look (put hand v.worker h w).taken k ≡ listing new w
lists_at hand k v h old new was here other w = at_put hand v.worker h (λ i y. look y.taken k ≡ listing new i) w here (λ ne. was w ∙ other w ne)

module _ (about : BookData) (n id k : ℕ) (v : FlightView) (near : k < n) where
  -- a hand looks
  pub hand_looks : v.role ≡ Takes → v.out ≡ None → Allows (InFlight about) n id (v, []) k (λ m. m) (looks (step n k 0 0 maybe.none) (v, []))
  hand_looks role home s r wide at _ = let m : ℕ = get_or s.words k 0 in let h = looked v k (unpacked m) in let is = known_hand about s r id v at role in let close : k < length s.homes = omega arith in let ok = r.each_slot k close in (
    h,
    keeps,
    tt,
    hand_moves about s r id k m (r.cells k) s.homes v h at role close refl (λ _ _. refl) role refl refl (λ _ _. refl) (λ j _. idle v.out j home)
        (λ _. slot_on about k r.o r.o r.hand (put r.hand v.worker h) m (get_elem? s.homes k) (r.cells k) refl (λ x. x) (λ x. (x, refl))
        (λ w. at_put r.hand v.worker h (λ i x. look x.taken k ≡ look (r.hand i).taken k) w (ap (λ z. look z.taken k) (sym is)) (λ _. refl))
        (λ w. at_put r.hand v.worker h (λ i x. (r.hand i).out ≡ Some k → x.out ≡ Some k) w (λ x. ap (λ z. z.out) (sym is) ∙ x) (λ _ x. x))
        ok)
        (steady r.hand v h (r.cells k) (r.cells k) is refl (λ _. refl)),
    (refl, is_packed (r.cells k) m ok.shows ok.small),
  )

  -- a hand takes what is ready for it
  pub hand_takes : (p old new : ℕ) → v.role ≡ Takes → v.out ≡ None → v.worker < 8 → old ≡ packed (word Ready p v.worker) → new ≡ packed (word Taken p v.worker) → Allows (InFlight about) n id (v, []) k (λ m. either (eqb m old) new m) (takes_one (step n k old new maybe.none) (v, []))
  hand_takes p old new role home few was then s r wide at fit = let m : ℕ = get_or s.words k 0 in exchanged m old new (Goes about s k id (v, []) (takes_one (step n k old new maybe.none) (v, []) m))
      (λ e.
      let close : k < length s.homes = omega arith in
      let is = known_hand about s r id v at role in
      let ok₀ = r.each_slot k close in
      let w₀ : unpacked m ≡ word Ready p v.worker = ap unpacked (e ∙ was) ∙ reads (word Ready p v.worker) few in
      let c = is_ready (r.cells k) p v.worker (sym (says (r.cells k) m ok₀.shows ok₀.small) ∙ w₀) in
      let ok : SlotOk about k r.o r.hand m (get_elem? s.homes k) (ready p v.worker) = subst (SlotOk about k r.o r.hand m (get_elem? s.homes k)) c ok₀ in
      let x = ok.lies in
      let number : (unpacked m).number ≡ p = ap (λ z. z.number) w₀ in
      let h = grabbed (listed v k (unpacked m).number) k (unpacked m) in
      let ours : v.about ≡ about = ap (λ z. z.about) (sym is) ∙ (r.hand_about v.worker).0 in (
        h,
        takes k (Some x.0),
        x.1,
        hand_moves about s r id k new (taken p v.worker) (set s.homes k maybe.none) v h at role close (length-set s.homes k maybe.none) (λ j ne. set_else s.homes k j maybe.none ne) role refl refl
            (λ j ne. look_else k (Some (unpacked m).number) j v.taken ne) (λ j _. idle v.out j home)
            (λ _. record {
              shows = then;
              small = few;
              given = ok.given;
              listed = lists_at r.hand k v h (ready p v.worker) (taken p v.worker) ok.listed (look_here k (Some (unpacked m).number) v.taken ∙ ap Some number ∙ sym (listing_here p v.worker)) (λ w ne. sym (listing_else p v.worker w ne));
              lies = inr (ap (λ z. z.out) (put_here r.hand v.worker h));
              marked = λ o. absurd (ok.marked o).0;
            })
            (steady r.hand v h (r.cells k) (taken p v.worker) is refl (λ w. ap (is_done w) c)),
        ((λ _. (x.0, refl, subst (λ (z : BookData × ℕ). Waiting z.0 z.1 x.0) (λ i. (sym ours i, sym number i)) x.2, ap (λ z. look z.taken k) (sym is) ∙ ok.listed v.worker)), λ ne. absurd (ne e)),
      ))
      (λ ne. let t = hand_looks role home s r wide at fit in (t.0, t.1, t.2, t.3, ((λ e. absurd (ne e)), λ _. t.4)))

  -- the word of a slot whose number a hand lists
  taken_cell : (s : St) (r : InFlight about s) (p : ℕ) → get_elem? s.views id ≡ some v → v.role ≡ Takes → look v.taken k ≡ Some p → k < length s.homes → r.cells k ≡ taken p v.worker
  taken_cell s r p at role lists close = let ok = r.each_slot k close in let is = known_hand about s r id v at role in
      is_taken (r.cells k) p v.worker (sym (ok.listed v.worker) ∙ ap (λ z. look z.taken k) is ∙ lists)

  -- a hand that has just taken gives the slot back, empty
  pub hand_rests : (p new : ℕ) (me : M) → me ≡ (v, (k, None) ∷ []) → v.role ≡ Takes → v.out ≡ Some k → v.worker < 8 → look v.taken k ≡ Some p → new ≡ packed (word Taken p v.worker) → Allows (InFlight about) n id me k (λ _. new) (λ _. rests (step n k new 0 maybe.none) me new)
  hand_rests p new me is_me role home few lists then = subst (λ (z : M). Allows (InFlight about) n id z k (λ _. new) (λ _. rests (step n k new 0 maybe.none) z new)) (sym is_me) (λ s r wide at fit.
      let close : k < length s.homes = omega arith in
      let is = known_hand about s r id v at role in
      let c = taken_cell s r p at role lists close in
      let ok : SlotOk about k r.o r.hand (get_or s.words k 0) (get_elem? s.homes k) (taken p v.worker) = subst (SlotOk about k r.o r.hand (get_or s.words k 0) (get_elem? s.homes k)) c (r.each_slot k close) in
      let h = at_home v in (
        h,
        gives,
        tt,
        hand_moves about s r id k new (taken p v.worker) (set s.homes k (some None)) v h at role close (length-set s.homes k (some None)) (λ j ne. set_else s.homes k j (some None) ne) role refl refl
            (λ j ne. refl) (λ j ne. elsewhere v.out k j home ne)
            (λ _. record {
              shows = then;
              small = few;
              given = ok.given;
              listed = lists_at r.hand k v h (taken p v.worker) (taken p v.worker) ok.listed (lists ∙ sym (listing_here p v.worker)) (λ w ne. refl);
              lies = inl (set_here s.homes k (some None) close);
              marked = λ o. absurd (ok.marked o).0;
            })
            (steady r.hand v h (r.cells k) (taken p v.worker) is refl (λ w. ap (is_done w) c)),
        refl,
      ))

  -- a hand fetches the slot that it lists, to fill it
  pub hand_grabs : (p : ℕ) → v.role ≡ Takes → v.out ≡ None → v.worker < 8 → look v.taken k ≡ Some p → Allows (InFlight about) n id (v, []) k (λ m. m) (grabs (step n k 0 0 maybe.none) (v, []))
  hand_grabs p role home few lists s r wide at fit =
      let m : ℕ = get_or s.words k 0 in
      let close : k < length s.homes = omega arith in
      let is = known_hand about s r id v at role in
      let c = taken_cell s r p at role lists close in
      let ok : SlotOk about k r.o r.hand m (get_elem? s.homes k) (taken p v.worker) = subst (SlotOk about k r.o r.hand m (get_elem? s.homes k)) c (r.each_slot k close) in
      let there : get_elem? s.homes k ≡ some (some None) = ⊎_elim (λ x. x) (λ x. absurd (idle v.out k home (ap (λ z. z.out) (sym is) ∙ x))) ok.lies in
      let h = grabbed v k (unpacked m) in (
        h,
        takes k None,
        there,
        hand_moves about s r id k m (taken p v.worker) (set s.homes k maybe.none) v h at role close (length-set s.homes k maybe.none) (λ j ne. set_else s.homes k j maybe.none ne) role refl refl
            (λ j ne. refl) (λ j ne. idle v.out j home)
            (λ _. record {
              shows = ok.shows;
              small = few;
              given = ok.given;
              listed = lists_at r.hand k v h (taken p v.worker) (taken p v.worker) ok.listed (lists ∙ sym (listing_here p v.worker)) (λ w ne. refl);
              lies = inr (ap (λ z. z.out) (put_here r.hand v.worker h));
              marked = λ o. absurd (ok.marked o).0;
            })
            (steady r.hand v h (r.cells k) (taken p v.worker) is refl (λ w. ap (is_done w) c)),
        refl,
      )

  -- a hand gives the slot back with what it processed
  pub hand_finishes : (p new : ℕ) (op : Flying) (me : M) → me ≡ (v, (k, Some op) ∷ []) → v.role ≡ Takes → v.out ≡ Some k → v.worker < 8 → look v.taken k ≡ Some p → new ≡ packed (word Done p v.worker) → Finished v.about p op
      → Allows (InFlight about) n id me k (λ _. new) (λ _. finishes (step n k new 0 maybe.none) me new)
  hand_finishes p new op me is_me role home few lists then good = subst (λ (z : M). Allows (InFlight about) n id z k (λ _. new) (λ _. finishes (step n k new 0 maybe.none) z new)) (sym is_me) (λ s r wide at fit.
      let close : k < length s.homes = omega arith in
      let is = known_hand about s r id v at role in
      let c = taken_cell s r p at role lists close in
      let ok : SlotOk about k r.o r.hand (get_or s.words k 0) (get_elem? s.homes k) (taken p v.worker) = subst (SlotOk about k r.o r.hand (get_or s.words k 0) (get_elem? s.homes k)) c (r.each_slot k close) in
      let ours : v.about ≡ about = ap (λ z. z.about) (sym is) ∙ (r.hand_about v.worker).0 in
      let h = ended v k in (
        h,
        gives,
        tt,
        hand_moves about s r id k new (done p v.worker) (set s.homes k (some (Some op))) v h at role close (length-set s.homes k (some (Some op))) (λ j ne. set_else s.homes k j (some (Some op)) ne) role refl refl
            (λ j ne. look_else k None j v.taken ne) (λ j ne. elsewhere v.out k j home ne)
            (λ _. record {
              shows = then;
              small = few;
              given = ok.given;
              listed = lists_at r.hand k v h (taken p v.worker) (done p v.worker) ok.listed (look_here k None v.taken) (λ w ne. listing_else p v.worker w ne);
              lies = inl (op, set_here s.homes k (some (Some op)) close, subst (λ z. Finished z p op) ours good);
              marked = λ o. absurd (ok.marked o).0;
            })
            (λ w. at_put r.hand v.worker h (λ i y. y.finished + is_done i (r.cells k) ≡ (r.hand i).finished + is_done i (done p v.worker)) w
            (let a : is_done v.worker (r.cells k) ≡ 0 = ap (is_done v.worker) c in let b : (r.hand v.worker).finished ≡ v.finished = ap (λ z. z.finished) is in let d = done_here p v.worker in omega (arith, a, b, d))
            (λ ne. let a : is_done w (r.cells k) ≡ 0 = ap (is_done w) c in let d = done_else p v.worker w ne in omega (arith, a, d))),
        refl,
      ))

  -- a hand gives the slot back with what it took
  pub hand_gives_back : (p new : ℕ) (op : Flying) (me : M) → me ≡ (v, (k, Some op) ∷ []) → v.role ≡ Takes → v.out ≡ Some k → v.worker < 8 → look v.taken k ≡ Some p → new ≡ packed (word Back p v.worker) → Waiting v.about p op
      → Allows (InFlight about) n id me k (λ _. new) (λ _. gives_back (step n k new 0 maybe.none) me new)
  hand_gives_back p new op me is_me role home few lists then good = subst (λ (z : M). Allows (InFlight about) n id z k (λ _. new) (λ _. gives_back (step n k new 0 maybe.none) z new)) (sym is_me) (λ s r wide at fit.
      let close : k < length s.homes = omega arith in
      let is = known_hand about s r id v at role in
      let c = taken_cell s r p at role lists close in
      let ok : SlotOk about k r.o r.hand (get_or s.words k 0) (get_elem? s.homes k) (taken p v.worker) = subst (SlotOk about k r.o r.hand (get_or s.words k 0) (get_elem? s.homes k)) c (r.each_slot k close) in
      let ours : v.about ≡ about = ap (λ z. z.about) (sym is) ∙ (r.hand_about v.worker).0 in
      let h = unlisted v k in (
        h,
        gives,
        tt,
        hand_moves about s r id k new (back p v.worker) (set s.homes k (some (Some op))) v h at role close (length-set s.homes k (some (Some op))) (λ j ne. set_else s.homes k j (some (Some op)) ne) role refl refl
            (λ j ne. look_else k None j v.taken ne) (λ j ne. elsewhere v.out k j home ne)
            (λ _. record {
              shows = then;
              small = few;
              given = ok.given;
              listed = lists_at r.hand k v h (taken p v.worker) (back p v.worker) ok.listed (look_here k None v.taken) (λ w ne. listing_else p v.worker w ne);
              lies = inl (op, set_here s.homes k (some (Some op)) close, subst (λ z. Waiting z p op) ours good);
              marked = λ o. absurd (ok.marked o).0;
            })
            (steady r.hand v h (r.cells k) (back p v.worker) is refl (λ w. ap (is_done w) c)),
        refl,
      ))

-- the same at a seat that is known
module _ (about : BookData) (n id k : ℕ) (v : FlightView) (near : k < n) (me : M) (is_me : me ≡ (v, [])) where
  pub hand_looks_as : v.role ≡ Takes → v.out ≡ None → Allows (InFlight about) n id me k (λ m. m) (looks (step n k 0 0 maybe.none) me)
  hand_looks_as role home = subst (λ (z : M). Allows (InFlight about) n id z k (λ m. m) (looks (step n k 0 0 maybe.none) z)) (sym is_me) (hand_looks about n id k v near role home)

  pub hand_takes_as : (p old new : ℕ) → v.role ≡ Takes → v.out ≡ None → v.worker < 8 → old ≡ packed (word Ready p v.worker) → new ≡ packed (word Taken p v.worker) → Allows (InFlight about) n id me k (λ m. either (eqb m old) new m) (takes_one (step n k old new maybe.none) me)
  hand_takes_as p old new role home few was then = subst (λ (z : M). Allows (InFlight about) n id z k (λ m. either (eqb m old) new m) (takes_one (step n k old new maybe.none) z)) (sym is_me) (hand_takes about n id k v near p old new role home few was then)

  pub hand_grabs_as : (p : ℕ) → v.role ≡ Takes → v.out ≡ None → v.worker < 8 → look v.taken k ≡ Some p → Allows (InFlight about) n id me k (λ m. m) (grabs (step n k 0 0 maybe.none) me)
  hand_grabs_as p role home few lists = subst (λ (z : M). Allows (InFlight about) n id z k (λ m. m) (grabs (step n k 0 0 maybe.none) z)) (sym is_me) (hand_grabs about n id k v near p role home few lists)
