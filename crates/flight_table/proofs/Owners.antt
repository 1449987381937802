-- Each kind of step of the owner keeps the rule.
use Rattle.std.proofs.Common.{◌≡◌, ℕ, ◌+◌, ◌<◌, eqb, [], ◌∷◌, length, set, get_or, inl, inr, refl, sym, ap, ◌∙◌, subst, ⊎_elim, arith, length-set, Option, Some, None}
use native.Mathlib.Decide.{ℕ_discrete}
use mathlib.Core.Logic.{dite}
use mathlib.Core.Option.{some, some-injective, some-ne-none}
use mathlib.Core.Option as maybe
use prog.Atomic.{either}
use lib.ListN.{get_elem?}
use Rattle.atomic_table.specs.Table.{step, keeps, takes, gives, Allows}
use Rattle.atomic_table.proofs.Lists.{set_here, set_else, exchanged}
use Rattle.flight_table.specs.Note.{BookData}
use Rattle.flight_table.specs.declared.word.Phase.TheVariants.{Held, Ready, Done, Back}
use Rattle.flight_table.specs.declared.rule.Role.TheVariants.{Owns}
use Rattle.flight_table.specs.declared.rule.Sent.{Sent}
use Rattle.flight_table.specs.declared.rule.FlightView.{FlightView}
use Rattle.flight_table.specs.Word.{word, packed, unpacked}
use Rattle.flight_table.specs.View.{look, sent, times, looked, grabbed, at_home, published, gained, regained}
use Rattle.flight_table.specs.Rule.{Flying, HasSome, held, ready, done, back, word_of, due, IsOwners, Waiting, Finished, SlotOk, is_done, InFlight}
use Rattle.flight_table.specs.Call.{M, Shown, ShownAs, IsPacked, rests, grabs, publishes, sees, lifts, gains, regains, recalls, settles}
use Rattle.flight_table.proofs.Puts.{look_here, look_else, times_here, times_else, idle, elsewhere}
use Rattle.flight_table.proofs.Cells.{reads, says, is_packed, is_ready, is_held, is_held_word, is_done_word, is_back_word, phase_same, done_here, done_else, no_dones, shown_as, lies_out}
use Rattle.flight_table.proofs.Moves.{St, slot_on, owner_moves}
use Rattle.flight_table.proofs.Steps.{Goes, known_owner}

module _ (about : BookData) (n id k : ℕ) (v : FlightView) (near : k < n) where
  -- what a word found says of what the owner gave
  seen : (s : St) (r : InFlight about s) → get_elem? s.views id ≡ some v → v.role ≡ Owns → k < length s.homes → Shown v k (unpacked (get_or s.words k 0)) × IsPacked (get_or s.words k 0)
  seen s r at role close = let ok = r.each_slot k close in let is = known_owner about s r id v at role in
      (subst (λ (z : Option Sent). ShownAs z (unpacked (get_or s.words k 0))) (sym ok.given ∙ ap (λ z. look z.given k) is) (subst (ShownAs (due (r.cells k))) (sym (says (r.cells k) (get_or s.words k 0) ok.shows ok.small)) (shown_as (r.cells k))), is_packed (r.cells k) (get_or s.words k 0) ok.shows ok.small)

  -- the owner looks
  pub owner_sees : v.role ≡ Owns → v.out ≡ None → Allows (InFlight about) n id (v, []) k (λ m. m) (sees (step n k 0 0 maybe.none) (v, []))
  owner_sees role home s r wide at _ =
      let m : ℕ = get_or s.words k 0 in
      let is = known_owner about s r id v at role in
      let close : k < length s.homes = omega arith in
      let ok = r.each_slot k close in
      let o' = looked v k (unpacked m) in
      let t = seen s r at role close in (
        o',
        keeps,
        tt,
        owner_moves about s r id k m (r.cells k) s.homes v o' at role close refl (λ _ _. refl) role refl refl refl (λ _ _. refl) (λ j _. idle v.out j home) (λ j _. idle v.out j home)
            (λ _. slot_on about k r.o o' r.hand r.hand m (get_elem? s.homes k) (r.cells k) (ap (λ z. look z.given k) (sym is)) (λ x. ap (λ z. z.out) (sym is) ∙ x) (λ x. absurd (idle v.out k home x)) (λ _. refl) (λ _ x. x) ok)
            (λ w. refl),
        (t.0, t.1, refl),
      )

  -- the owner fetches a slot under a word that only it can change
  lift_on : (s : St) (r : InFlight about s) (x : Flying) → get_elem? s.views id ≡ some v → v.role ≡ Owns → v.out ≡ None → k < length s.homes → IsOwners (r.cells k)
      → InFlight about record { words = set s.words k (get_or s.words k 0); homes = set s.homes k maybe.none; views = set s.views id (grabbed (looked v k (unpacked (get_or s.words k 0))) k (unpacked (get_or s.words k 0))) }
  lift_on s r x at role home close owns =
      let m : ℕ = get_or s.words k 0 in
      let is = known_owner about s r id v at role in
      let ok = r.each_slot k close in
      let o' = grabbed (looked v k (unpacked m)) k (unpacked m) in
      owner_moves about s r id k m (r.cells k) (set s.homes k maybe.none) v o' at role close (length-set s.homes k maybe.none) (λ j ne. set_else s.homes k j maybe.none ne) role refl refl refl
      (λ j ne. refl) (λ j ne. idle v.out j home) (λ j ne. elsewhere (Some k) k j refl ne)
      (λ _. record {
        shows = ok.shows;
        small = ok.small;
        given = ap (λ z. look z.given k) (sym is) ∙ ok.given;
        listed = ok.listed;
        lies = lies_out about k o' r.hand (get_elem? (set s.homes k maybe.none) k) (r.cells k) owns refl;
        marked = λ o. (owns, says (r.cells k) m ok.shows ok.small);
      })
      (λ w. refl)

  -- the owner looks for what is done
  pub owner_finds_done : v.role ≡ Owns → v.out ≡ None → Allows (InFlight about) n id (v, []) k (λ m. m) (lifts Done Finished (step n k 0 0 maybe.none) (v, []))
  owner_finds_done role home s r wide at fit =
      let m : ℕ = get_or s.words k 0 in
      let is = known_owner about s r id v at role in
      let close : k < length s.homes = omega arith in
      let ok₀ = r.each_slot k close in
      let t = seen s r at role close in
      dite (phase_same (unpacked m).phase Done)
      (λ hit.
      let says₀ = says (r.cells k) m ok₀.shows ok₀.small in
      let c = is_done_word (r.cells k) (ap (λ z. z.phase) (sym says₀) ∙ hit) in
      let p = (word_of (r.cells k)).number in
      let w = (word_of (r.cells k)).worker in
      let ok : SlotOk about k r.o r.hand m (get_elem? s.homes k) (done p w) = subst (SlotOk about k r.o r.hand m (get_elem? s.homes k)) c ok₀ in
      let x = ⊎_elim {C = HasSome (get_elem? s.homes k) (Finished about p)} (λ y. y) (λ y. absurd (idle v.out k home (ap (λ z. z.out) (sym is) ∙ y))) ok.lies in
      let ours : v.about ≡ about = ap (λ z. z.about) (sym is) ∙ r.o_about in (
        grabbed (looked v k (unpacked m)) k (unpacked m),
        takes k (Some x.0),
        x.1,
        lift_on s r x.0 at role home close (subst IsOwners (sym c) tt),
        (t.0, t.1, (λ _. (x.0, sent p w, ap (λ z. look z.given k) (sym is) ∙ ok.given, says₀ ∙ ap word_of c, subst (λ z. Finished z p x.0) (sym ours) x.2, refl)), λ ne. absurd (ne hit)),
      ))
      (λ miss. let u = owner_sees role home s r wide at fit in (u.0, u.1, u.2, u.3, (t.0, t.1, (λ e. absurd (miss e)), λ _. u.4.2)))

  -- the owner looks for what was given back
  pub owner_finds_back : v.role ≡ Owns → v.out ≡ None → Allows (InFlight about) n id (v, []) k (λ m. m) (lifts Back Waiting (step n k 0 0 maybe.none) (v, []))
  owner_finds_back role home s r wide at fit =
      let m : ℕ = get_or s.words k 0 in
      let is = known_owner about s r id v at role in
      let close : k < length s.homes = omega arith in
      let ok₀ = r.each_slot k close in
      let t = seen s r at role close in
      dite (phase_same (unpacked m).phase Back)
      (λ hit.
      let says₀ = says (r.cells k) m ok₀.shows ok₀.small in
      let c = is_back_word (r.cells k) (ap (λ z. z.phase) (sym says₀) ∙ hit) in
      let p = (word_of (r.cells k)).number in
      let w = (word_of (r.cells k)).worker in
      let ok : SlotOk about k r.o r.hand m (get_elem? s.homes k) (back p w) = subst (SlotOk about k r.o r.hand m (get_elem? s.homes k)) c ok₀ in
      let x = ⊎_elim {C = HasSome (get_elem? s.homes k) (Waiting about p)} (λ y. y) (λ y. absurd (idle v.out k home (ap (λ z. z.out) (sym is) ∙ y))) ok.lies in
      let ours : v.about ≡ about = ap (λ z. z.about) (sym is) ∙ r.o_about in (
        grabbed (looked v k (unpacked m)) k (unpacked m),
        takes k (Some x.0),
        x.1,
        lift_on s r x.0 at role home close (subst IsOwners (sym c) tt),
        (t.0, t.1, (λ _. (x.0, sent p w, ap (λ z. look z.given k) (sym is) ∙ ok.given, says₀ ∙ ap word_of c, subst (λ z. Waiting z p x.0) (sym ours) x.2, refl)), λ ne. absurd (ne hit)),
      ))
      (λ miss. let u = owner_sees role home s r wide at fit in (u.0, u.1, u.2, u.3, (t.0, t.1, (λ e. absurd (miss e)), λ _. u.4.2)))

  -- the owner holds the slot of what was done
  pub owner_gains : (me : M) → me ≡ (v, (k, None) ∷ []) → v.role ≡ Owns → v.out ≡ Some k → v.mark.phase ≡ Done → Allows (InFlight about) n id me k (λ _. 1) (λ _. gains (step n k 1 0 maybe.none) me 1)
  owner_gains me is_me role home phase = subst (λ (z : M). Allows (InFlight about) n id z k (λ _. 1) (λ _. gains (step n k 1 0 maybe.none) z 1)) (sym is_me) (λ s r wide at fit.
      let close : k < length s.homes = omega arith in
      let is = known_owner about s r id v at role in
      let ok₀ = r.each_slot k close in
      let it = ok₀.marked (ap (λ z. z.out) is ∙ home) in
      let marked₀ : v.mark ≡ word_of (r.cells k) = ap (λ z. z.mark) (sym is) ∙ it.1 in
      let c = is_done_word (r.cells k) (ap (λ z. z.phase) (sym marked₀) ∙ phase) in
      let p = (word_of (r.cells k)).number in
      let w = v.mark.worker in
      let c' : r.cells k ≡ done p w = c ∙ ap (λ z. done p z.worker) (sym marked₀) in
      let ok : SlotOk about k r.o r.hand (get_or s.words k 0) (get_elem? s.homes k) (done p w) = subst (SlotOk about k r.o r.hand (get_or s.words k 0) (get_elem? s.homes k)) c' ok₀ in
      let o' = gained v k w in (
        o',
        gives,
        tt,
        owner_moves about s r id k 1 held (set s.homes k (some None)) v o' at role close (length-set s.homes k (some None)) (λ j ne. set_else s.homes k j (some None) ne) role refl refl refl
            (λ j ne. look_else k None j v.given ne) (λ j ne. elsewhere v.out k j home ne) (λ j ne. idle None j refl)
            (λ _. record {
              shows = refl;
              small = omega arith;
              given = look_here k None v.given;
              listed = ok.listed;
              lies = inl (set_here s.homes k (some None) close);
              marked = λ o. absurd (idle None k refl o);
            })
            (λ u. dite (ℕ_discrete u w)
            (λ e. let a : is_done u (r.cells k) ≡ 1 = ap (is_done u) c' ∙ subst (λ (z : ℕ). is_done z (done p w) ≡ 1) (sym e) (done_here p w) in
            let b : times u o'.collected ≡ times u v.collected + 1 = subst (λ (z : ℕ). times z o'.collected ≡ times z v.collected + 1) (sym e) (times_here w v.collected) in omega (arith, a, b))
            (λ ne. let a : is_done u (r.cells k) ≡ 0 = ap (is_done u) c' ∙ done_else p w u ne in let b : times u o'.collected ≡ times u v.collected = times_else w u v.collected ne in omega (arith, a, b))),
        refl,
      ))

  -- the owner holds the slot of what was given back
  pub owner_regains : (me : M) → me ≡ (v, (k, None) ∷ []) → v.role ≡ Owns → v.out ≡ Some k → v.mark.phase ≡ Back → Allows (InFlight about) n id me k (λ _. 1) (λ _. regains (step n k 1 0 maybe.none) me 1)
  owner_regains me is_me role home phase = subst (λ (z : M). Allows (InFlight about) n id z k (λ _. 1) (λ _. regains (step n k 1 0 maybe.none) z 1)) (sym is_me) (λ s r wide at fit.
      let close : k < length s.homes = omega arith in
      let is = known_owner about s r id v at role in
      let ok₀ = r.each_slot k close in
      let it = ok₀.marked (ap (λ z. z.out) is ∙ home) in
      let marked₀ : v.mark ≡ word_of (r.cells k) = ap (λ z. z.mark) (sym is) ∙ it.1 in
      let c = is_back_word (r.cells k) (ap (λ z. z.phase) (sym marked₀) ∙ phase) in
      let ok : SlotOk about k r.o r.hand (get_or s.words k 0) (get_elem? s.homes k) (back (word_of (r.cells k)).number (word_of (r.cells k)).worker) = subst (SlotOk about k r.o r.hand (get_or s.words k 0) (get_elem? s.homes k)) c ok₀ in
      let o' = regained v k in (
        o',
        gives,
        tt,
        owner_moves about s r id k 1 held (set s.homes k (some None)) v o' at role close (length-set s.homes k (some None)) (λ j ne. set_else s.homes k j (some None) ne) role refl refl refl
            (λ j ne. look_else k None j v.given ne) (λ j ne. elsewhere v.out k j home ne) (λ j ne. idle None j refl)
            (λ _. record {
              shows = refl;
              small = omega arith;
              given = look_here k None v.given;
              listed = ok.listed;
              lies = inl (set_here s.homes k (some None) close);
              marked = λ o. absurd (idle None k refl o);
            })
            (λ u. let a : is_done u (r.cells k) ≡ 0 = ap (is_done u) c in omega (arith, a)),
        refl,
      ))

  -- the owner has an operation back that no worker has taken
  pub owner_recalls : (p w old : ℕ) → v.role ≡ Owns → v.out ≡ None → w < 8 → old ≡ packed (word Ready p w) → Allows (InFlight about) n id (v, []) k (λ m. either (eqb m old) 1 m) (recalls (step n k old 1 maybe.none) (v, []))
  owner_recalls p w old role home few was s r wide at fit = let m : ℕ = get_or s.words k 0 in exchanged m old 1 (Goes about s k id (v, []) (recalls (step n k old 1 maybe.none) (v, []) m))
      (λ e.
      let close : k < length s.homes = omega arith in
      let is = known_owner about s r id v at role in
      let ok₀ = r.each_slot k close in
      let c = is_ready (r.cells k) p w (sym (says (r.cells k) m ok₀.shows ok₀.small) ∙ ap unpacked (e ∙ was) ∙ reads (word Ready p w) few) in
      let ok : SlotOk about k r.o r.hand m (get_elem? s.homes k) (ready p w) = subst (SlotOk about k r.o r.hand m (get_elem? s.homes k)) c ok₀ in
      let x = ok.lies in
      let ours : v.about ≡ about = ap (λ z. z.about) (sym is) ∙ r.o_about in
      let o' = grabbed (regained v k) k (word Held 0 0) in (
        o',
        takes k (Some x.0),
        x.1,
        owner_moves about s r id k 1 held (set s.homes k maybe.none) v o' at role close (length-set s.homes k maybe.none) (λ j ne. set_else s.homes k j maybe.none ne) role refl refl refl
            (λ j ne. look_else k None j v.given ne) (λ j ne. idle v.out j home) (λ j ne. elsewhere (Some k) k j refl ne)
            (λ _. record {
              shows = refl;
              small = omega arith;
              given = look_here k None v.given;
              listed = ok.listed;
              lies = inr refl;
              marked = λ o. (tt, refl);
            })
            (λ u. let a : is_done u (r.cells k) ≡ 0 = ap (is_done u) c in omega (arith, a)),
        ((λ _. (x.0, sent p w, ap (λ z. look z.given k) (sym is) ∙ ok.given, subst (λ z. Waiting z p x.0) (sym ours) x.2, refl)), λ ne. absurd (ne e)),
      ))
      (λ ne. let t = owner_finds_back role home s r wide at fit in (t.0, t.1, t.2, t.3, ((λ e. absurd (ne e)), λ _. t.4)))

  -- a slot that the owner holds comes home
  pub owner_rests : (me : M) → me ≡ (v, (k, None) ∷ []) → v.role ≡ Owns → v.out ≡ Some k → v.mark.phase ≡ Held → Allows (InFlight about) n id me k (λ _. 1) (λ _. rests (step n k 1 0 maybe.none) me 1)
  owner_rests me is_me role home mark = subst (λ (z : M). Allows (InFlight about) n id z k (λ _. 1) (λ _. rests (step n k 1 0 maybe.none) z 1)) (sym is_me) (λ s r wide at fit.
      let close : k < length s.homes = omega arith in
      let is = known_owner about s r id v at role in
      let ok₀ = r.each_slot k close in
      let it = ok₀.marked (ap (λ z. z.out) is ∙ home) in
      let c = is_held_word (r.cells k) (ap (λ z. z.phase) (sym it.1) ∙ ap (λ z. z.mark.phase) is ∙ mark) in
      let ok : SlotOk about k r.o r.hand (get_or s.words k 0) (get_elem? s.homes k) held = subst (SlotOk about k r.o r.hand (get_or s.words k 0) (get_elem? s.homes k)) c ok₀ in
      let o' = at_home v in (
        o',
        gives,
        tt,
        owner_moves about s r id k 1 held (set s.homes k (some None)) v o' at role close (length-set s.homes k (some None)) (λ j ne. set_else s.homes k j (some None) ne) role refl refl refl
            (λ j ne. refl) (λ j ne. elsewhere v.out k j home ne) (λ j ne. idle None j refl)
            (λ _. record {
              shows = refl;
              small = omega arith;
              given = ap (λ z. look z.given k) (sym is) ∙ ok.given;
              listed = ok.listed;
              lies = inl (set_here s.homes k (some None) close);
              marked = λ o. absurd (idle None k refl o);
            })
            (λ u. let a : is_done u (r.cells k) ≡ 0 = ap (is_done u) c in omega (arith, a)),
        refl,
      ))

  -- the owner fetches a slot that it holds, to fill it
  pub owner_grabs : v.role ≡ Owns → v.out ≡ None → look v.given k ≡ None → Allows (InFlight about) n id (v, []) k (λ m. m) (grabs (step n k 0 0 maybe.none) (v, []))
  owner_grabs role home free s r wide at fit =
      let m : ℕ = get_or s.words k 0 in
      let close : k < length s.homes = omega arith in
      let is = known_owner about s r id v at role in
      let ok₀ = r.each_slot k close in
      let c = is_held (r.cells k) (sym ok₀.given ∙ ap (λ z. look z.given k) is ∙ free) in
      let ok : SlotOk about k r.o r.hand m (get_elem? s.homes k) held = subst (SlotOk about k r.o r.hand m (get_elem? s.homes k)) c ok₀ in
      let there : get_elem? s.homes k ≡ some (some None) = ⊎_elim (λ x. x) (λ x. absurd (idle v.out k home (ap (λ z. z.out) (sym is) ∙ x))) ok.lies in
      let o' = grabbed v k (unpacked m) in (
        o',
        takes k None,
        there,
        owner_moves about s r id k m held (set s.homes k maybe.none) v o' at role close (length-set s.homes k maybe.none) (λ j ne. set_else s.homes k j maybe.none ne) role refl refl refl
            (λ j ne. refl) (λ j ne. idle v.out j home) (λ j ne. elsewhere (Some k) k j refl ne)
            (λ _. record {
              shows = ok.shows;
              small = ok.small;
              given = free;
              listed = ok.listed;
              lies = inr refl;
              marked = λ o. (tt, says held m ok.shows ok.small);
            })
            (λ w. let a : is_done w (r.cells k) ≡ 0 = ap (is_done w) c in omega (arith, a)),
        refl,
      )

  -- the owner gives what it filled the slot with to a worker
  pub owner_publishes : (p new w : ℕ) (op : Flying) (me : M) → me ≡ (v, (k, Some op) ∷ []) → v.role ≡ Owns → v.out ≡ Some k → look v.given k ≡ None → w < 8 → new ≡ packed (word Ready p w) → Waiting v.about p op
      → Allows (InFlight about) n id me k (λ _. new) (λ _. publishes (step n k new 0 maybe.none) me new)
  owner_publishes p new w op me is_me role home free few then good = subst (λ (z : M). Allows (InFlight about) n id z k (λ _. new) (λ _. publishes (step n k new 0 maybe.none) z new)) (sym is_me) (λ s r wide at fit.
      let close : k < length s.homes = omega arith in
      let is = known_owner about s r id v at role in
      let ok₀ = r.each_slot k close in
      let c = is_held (r.cells k) (sym ok₀.given ∙ ap (λ z. look z.given k) is ∙ free) in
      let ok : SlotOk about k r.o r.hand (get_or s.words k 0) (get_elem? s.homes k) held = subst (SlotOk about k r.o r.hand (get_or s.words k 0) (get_elem? s.homes k)) c ok₀ in
      let ours : v.about ≡ about = ap (λ z. z.about) (sym is) ∙ r.o_about in
      let reads₀ : unpacked new ≡ word Ready p w = ap unpacked then ∙ reads (word Ready p w) few in
      let s₀ : sent (unpacked new).number (unpacked new).worker ≡ sent p w = ap (λ z. sent z.number z.worker) reads₀ in
      let o' = published v k (sent (unpacked new).number (unpacked new).worker) in (
        o',
        gives,
        tt,
        owner_moves about s r id k new (ready p w) (set s.homes k (some (Some op))) v o' at role close (length-set s.homes k (some (Some op))) (λ j ne. set_else s.homes k j (some (Some op)) ne) role refl refl refl
            (λ j ne. look_else k (Some (sent (unpacked new).number (unpacked new).worker)) j v.given ne) (λ j ne. elsewhere v.out k j home ne) (λ j ne. idle None j refl)
            (λ _. record {
              shows = then;
              small = few;
              given = look_here k (Some (sent (unpacked new).number (unpacked new).worker)) v.given ∙ ap Some s₀;
              listed = ok.listed;
              lies = (op, set_here s.homes k (some (Some op)) close, subst (λ z. Waiting z p op) ours good);
              marked = λ o. absurd (idle None k refl o);
            })
            (λ u. let a : is_done u (r.cells k) ≡ 0 = ap (is_done u) c in omega (arith, a)),
        refl,
      ))

-- the owner compares what its hands finished with what it collected
owner_settles : (about : BookData) (n id k : ℕ) (v : FlightView) → k < n → v.role ≡ Owns → v.out ≡ None → Allows (InFlight about) n id (v, []) k (λ m. m) (settles (step n k 0 0 maybe.none) (v, []))
owner_settles about n id k v near role home s r wide at _ =
    let m : ℕ = get_or s.words k 0 in
    let is = known_owner about s r id v at role in
    let close : k < length s.homes = omega arith in (
      v,
      keeps,
      tt,
      owner_moves about s r id k m (r.cells k) s.homes v v at role close refl (λ _ _. refl) role refl refl refl (λ _ _. refl) (λ j _. idle v.out j home) (λ j _. idle v.out j home)
          (λ _. subst (λ z. SlotOk about k z r.hand m (get_elem? s.homes k) (r.cells k)) is (r.each_slot k close))
          (λ w. refl),
      (
        refl,
        λ all w c e.
            let g = r.gathers w c (ap (λ z. look z.gathered w) is ∙ e) in
            let d = no_dones w r.cells (length s.homes) (λ j lt. is_held (r.cells j) (sym (r.each_slot j lt).given ∙ ap (λ z. look z.given j) is ∙ all j (omega arith))) in
            let b : times w v.collected ≡ times w r.o.collected = ap (λ z. times w z.collected) (sym is) in
            let a = r.counted w in
            omega (arith, g, d, a, b),
      ),
    )

-- the same at a seat that is known
module _ (about : BookData) (n id k : ℕ) (v : FlightView) (near : k < n) (me : M) (is_me : me ≡ (v, [])) where
  pub owner_sees_as : v.role ≡ Owns → v.out ≡ None → Allows (InFlight about) n id me k (λ m. m) (sees (step n k 0 0 maybe.none) me)
  owner_sees_as role home = subst (λ (z : M). Allows (InFlight about) n id z k (λ m. m) (sees (step n k 0 0 maybe.none) z)) (sym is_me) (owner_sees about n id k v near role home)

  pub owner_finds_done_as : v.role ≡ Owns → v.out ≡ None → Allows (InFlight about) n id me k (λ m. m) (lifts Done Finished (step n k 0 0 maybe.none) me)
  owner_finds_done_as role home = subst (λ (z : M). Allows (InFlight about) n id z k (λ m. m) (lifts Done Finished (step n k 0 0 maybe.none) z)) (sym is_me) (owner_finds_done about n id k v near role home)

  pub owner_finds_back_as : v.role ≡ Owns → v.out ≡ None → Allows (InFlight about) n id me k (λ m. m) (lifts Back Waiting (step n k 0 0 maybe.none) me)
  owner_finds_back_as role home = subst (λ (z : M). Allows (InFlight about) n id z k (λ m. m) (lifts Back Waiting (step n k 0 0 maybe.none) z)) (sym is_me) (owner_finds_back about n id k v near role home)

  pub owner_recalls_as : (p w old : ℕ) → v.role ≡ Owns → v.out ≡ None → w < 8 → old ≡ packed (word Ready p w) → Allows (InFlight about) n id me k (λ m. either (eqb m old) 1 m) (recalls (step n k old 1 maybe.none) me)
  owner_recalls_as p w old role home few was = subst (λ (z : M). Allows (InFlight about) n id z k (λ m. either (eqb m old) 1 m) (recalls (step n k old 1 maybe.none) z)) (sym is_me) (owner_recalls about n id k v near p w old role home few was)

  pub owner_grabs_as : v.role ≡ Owns → v.out ≡ None → look v.given k ≡ None → Allows (InFlight about) n id me k (λ m. m) (grabs (step n k 0 0 maybe.none) me)
  owner_grabs_as role home free = subst (λ (z : M). Allows (InFlight about) n id z k (λ m. m) (grabs (step n k 0 0 maybe.none) z)) (sym is_me) (owner_grabs about n id k v near role home free)

  pub owner_settles_as : v.role ≡ Owns → v.out ≡ None → Allows (InFlight about) n id me k (λ m. m) (settles (step n k 0 0 maybe.none) me)
  owner_settles_as role home = subst (λ (z : M). Allows (InFlight about) n id z k (λ m. m) (settles (step n k 0 0 maybe.none) z)) (sym is_me) (owner_settles about n id k v near role home)
