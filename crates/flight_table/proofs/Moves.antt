-- What stays of the rule when one seat steps at one slot.
use Rattle.std.proofs.Common.{◌≡◌, ◌≢◌, ℕ, ◌+◌, ◌<◌, ◌≤◌, List, length, set, get_or, inl, inr, refl, sym, ap, ◌∙◌, subst, ⊎_elim, arith, length-set, get_or-set_other, get_or-set_same, Some, None}
use mathlib.Core.Option.{some}
use mathlib.Core.Option as maybe
use lib.ListN.{get_elem?}
use Rattle.atomic_table.specs.Table.{State}
use Rattle.atomic_table.proofs.Lists.{at_set, set_else}
use Rattle.flight_table.specs.Note.{BookData}
use Rattle.flight_table.specs.declared.rule.Role.{Role}
use Rattle.flight_table.specs.declared.rule.Role.TheVariants.{Owns, Takes, Spent}
use Rattle.flight_table.specs.declared.rule.FlightView.{FlightView}
use Rattle.flight_table.specs.View.{look, times, new_hand}
use Rattle.flight_table.specs.Rule.{Slot, Cell, held, ready, taken, done, back, Lies, SlotOk, is_done, dones, SeatOk, InFlight}
use Rattle.flight_table.proofs.Puts.{put, at_put, put_here, put_else, is_none, set_got, apart_by}
use Rattle.flight_table.proofs.Cells.{dones_put}

abbrev pub St : Type 0
St = State Slot FlightView

pub takes_owns : Takes ≡ Owns → ⊥
takes_owns e = cc

abbrev pub Hands : Type 0
Hands = ℕ → FlightView

-- a slot to which nothing happens
lies_on : (about : BookData) (k : ℕ) (o o' : FlightView) (hand hand' : Hands) (home : maybe.Option (maybe.Option Slot)) (c : Cell)
    → (o.out ≡ Some k → o'.out ≡ Some k) → ((w : ℕ) → (hand w).out ≡ Some k → (hand' w).out ≡ Some k) → Lies about k o hand home c → Lies about k o' hand' home c
lies_on about k o o' hand hand' home held a b l = ⊎_elim inl (λ x. inr (a x)) l
lies_on about k o o' hand hand' home (ready p w) a b l = l
lies_on about k o o' hand hand' home (taken p w) a b l = ⊎_elim inl (λ x. inr (b w x)) l
lies_on about k o o' hand hand' home (done p w) a b l = ⊎_elim inl (λ x. inr (a x)) l
lies_on about k o o' hand hand' home (back p w) a b l = ⊎_elim inl (λ x. inr (a x)) l

pub slot_on : (about : BookData) (k : ℕ) (o o' : FlightView) (hand hand' : Hands) (word : ℕ) (home : maybe.Option (maybe.Option Slot)) (c : Cell)
    → look o'.given k ≡ look o.given k → (o.out ≡ Some k → o'.out ≡ Some k) → (o'.out ≡ Some k → (o.out ≡ Some k) × (o'.mark ≡ o.mark))
    → ((w : ℕ) → look (hand' w).taken k ≡ look (hand w).taken k) → ((w : ℕ) → (hand w).out ≡ Some k → (hand' w).out ≡ Some k)
    → SlotOk about k o hand word home c → SlotOk about k o' hand' word home c
slot_on about k o o' hand hand' word home c g a b t u ok = record {
  shows = ok.shows;
  small = ok.small;
  given = g ∙ ok.given;
  listed = λ w. t w ∙ ok.listed w;
  lies = lies_on about k o o' hand hand' home c a u ok.lies;
  marked = λ e. let x = b e in let y = ok.marked x.0 in (y.0, x.1 ∙ y.1);
}

module _ (about : BookData) (s : St) (r : InFlight about s) (id k new : ℕ) (c : Cell) (homes' : List (maybe.Option Slot)) where
  abbrev pub after : FlightView → St
  after v' = record { words = set s.words k new; homes = homes'; views = set s.views id v' }

  -- the owner steps at the slot k
  pub owner_moves : (v o' : FlightView) → get_elem? s.views id ≡ some v → v.role ≡ Owns → k < length s.homes → length homes' ≡ length s.homes
      → ((j : ℕ) → j ≢ k → get_elem? homes' j ≡ get_elem? s.homes j) → o'.role ≡ Owns → o'.about ≡ v.about → o'.made ≡ v.made → o'.gathered ≡ v.gathered
      → ((j : ℕ) → j ≢ k → look o'.given j ≡ look v.given j) → ((j : ℕ) → j ≢ k → v.out ≢ Some j) → ((j : ℕ) → j ≢ k → o'.out ≢ Some j)
      → (r.o ≡ v → SlotOk about k o' r.hand new (get_elem? homes' k) c)
      → ((w : ℕ) → times w o'.collected + is_done w c ≡ times w v.collected + is_done w (r.cells k))
      → InFlight about (after o')
  owner_moves v o' at owns near long home role' about' made' gathered' given' out out' ok counts =
      let mine : (id ≡ r.owner) × (v ≡ r.o) = subst (SeatOk r.owner r.o r.seat_of r.hand id v) owns (r.each_seat id v at) in
      let is : r.o ≡ v = sym mine.1 in
      record {
        owner = r.owner;
        o = o';
        seat_of = r.seat_of;
        hand = r.hand;
        cells = put r.cells k c;
        o_about = about' ∙ ap (λ u. u.about) mine.1 ∙ r.o_about;
        hand_about = r.hand_about;
        wide = length-set s.words k new ∙ r.wide ∙ sym long;
        each_seat = λ j u e. ⊎_elim
            (λ (x : (j ≡ id) × (o' ≡ u)). subst (λ (y : ℕ × FlightView). SeatOk r.owner o' r.seat_of r.hand y.0 y.1 y.1.role) (λ i. (sym x.0 i, x.1 i)) (subst (SeatOk r.owner o' r.seat_of r.hand id o') (sym role') (mine.0, refl)))
            (λ (x : (j ≢ id) × (get_elem? s.views j ≡ some u)). others j u u.role x.0 mine.0 (made' ∙ ap (λ z. z.made) mine.1) (gathered' ∙ ap (λ z. z.gathered) mine.1) (r.each_seat j u x.1))
            (at_set s.views id j o' u e);
        has_owner = (subst (λ (j : ℕ). get_elem? (set s.views id o') j ≡ some o') mine.0 (set_got s.views id v o' at), role');
        has_hand = λ w lt none.
            let g = r.has_hand w (subst (λ (n : ℕ). w < n) (made' ∙ ap (λ z. z.made) mine.1) lt) (sym (ap (λ l. look l w) (gathered' ∙ ap (λ z. z.gathered) mine.1)) ∙ none) in
            set_else s.views id (r.seat_of w) o' (apart_by (λ z. z.role) s.views (r.seat_of w) id (r.hand w) v g at (λ e. takes_owns (sym (r.hand_about w).2 ∙ e ∙ owns))) ∙ g;
        each_slot = λ j lt. at_put r.cells k c (λ i x. j ≡ i → SlotOk about i o' r.hand (get_or (set s.words k new) i 0) (get_elem? homes' i) x) j
            (λ _. subst (λ (n : ℕ). SlotOk about k o' r.hand n (get_elem? homes' k) c) (sym (get_or-set_same s.words k new 0 (let w = r.wide in omega arith))) (ok is))
            (λ ne _. let was = r.each_slot j (let l = long in omega arith) in
            let kept = slot_on about j r.o o' r.hand r.hand (get_or s.words j 0) (get_elem? s.homes j) (r.cells j) (given' j ne ∙ ap (λ z. look z.given j) mine.1)
            (λ x. absurd (out j ne (ap (λ z. z.out) mine.1 ∙ x))) (λ x. absurd (out' j ne x)) (λ _. refl) (λ _ x. x) was in
            subst (λ (z : ℕ × maybe.Option (maybe.Option Slot)). SlotOk about j o' r.hand z.0 z.1 (r.cells j)) (λ i. (sym (get_or-set_other s.words k j new 0 ne) i, sym (home j ne) i)) kept)
            refl;
        counted = λ w. let a = counts w in let b = r.counted w in let d = dones_put w r.cells k c (length s.homes) near in let x : times w v.collected ≡ times w r.o.collected = ap (λ z. times w z.collected) mine.1 in
            let l : dones w (put r.cells k c) (length homes') ≡ dones w (put r.cells k c) (length s.homes) = ap (dones w (put r.cells k c)) long in omega (arith, a, b, d, x, l);
        unmade = λ w le. let u = r.unmade w (subst (λ (n : ℕ). n ≤ w) (made' ∙ ap (λ z. z.made) mine.1) le) in (u.0, ap (λ l. look l w) (gathered' ∙ ap (λ z. z.gathered) mine.1) ∙ u.1);
        gathers = λ w n e. r.gathers w n (sym (ap (λ l. look l w) (gathered' ∙ ap (λ z. z.gathered) mine.1)) ∙ e);
      }
    where
      others : (j : ℕ) (u : FlightView) (role : Role) → j ≢ id → id ≡ r.owner → o'.made ≡ r.o.made → o'.gathered ≡ r.o.gathered → SeatOk r.owner r.o r.seat_of r.hand j u role → SeatOk r.owner o' r.seat_of r.hand j u role
      others j u Owns ne mine made gat q = absurd (ne (q.0 ∙ sym mine))
      others j u Takes ne mine made gat q = (subst (λ (n : ℕ). u.worker < n) (sym made) q.0, q.1, q.2, ap (λ l. look l u.worker) gat ∙ q.3)
      others j u Spent ne mine made gat q = q

  -- a hand steps at the slot k
  pub hand_moves : (v h : FlightView) → get_elem? s.views id ≡ some v → v.role ≡ Takes → k < length s.homes → length homes' ≡ length s.homes
      → ((j : ℕ) → j ≢ k → get_elem? homes' j ≡ get_elem? s.homes j) → h.role ≡ Takes → h.about ≡ v.about → h.worker ≡ v.worker
      → ((j : ℕ) → j ≢ k → look h.taken j ≡ look v.taken j) → ((j : ℕ) → j ≢ k → v.out ≢ Some j)
      → (r.hand v.worker ≡ v → SlotOk about k r.o (put r.hand v.worker h) new (get_elem? homes' k) c)
      → ((w : ℕ) → (put r.hand v.worker h w).finished + is_done w (r.cells k) ≡ (r.hand w).finished + is_done w c)
      → InFlight about (after h)
  hand_moves v h at takes near long home role' about' worker' taken' out ok counts =
      let mine : (v.worker < r.o.made) × (id ≡ r.seat_of v.worker) × (v ≡ r.hand v.worker) × (look r.o.gathered v.worker ≡ None) = subst (SeatOk r.owner r.o r.seat_of r.hand id v) takes (r.each_seat id v at) in
      let is : r.hand v.worker ≡ v = sym mine.2 in
      let hand' : Hands = put r.hand v.worker h in
      let here : put r.hand v.worker h v.worker ≡ h = put_here r.hand v.worker h in
      record {
        owner = r.owner;
        o = r.o;
        seat_of = r.seat_of;
        hand = put r.hand v.worker h;
        cells = put r.cells k c;
        o_about = r.o_about;
        hand_about = λ w. at_put r.hand v.worker h (λ i x. (x.about ≡ about) × (x.worker ≡ i) × (x.role ≡ Takes)) w (about' ∙ ap (λ u. u.about) mine.2 ∙ (r.hand_about v.worker).0, worker', role') (λ _. r.hand_about w);
        wide = length-set s.words k new ∙ r.wide ∙ sym long;
        each_seat = λ j u e. ⊎_elim
            (λ (x : (j ≡ id) × (h ≡ u)). subst (λ (y : ℕ × FlightView). SeatOk r.owner r.o r.seat_of hand' y.0 y.1 y.1.role) (λ i. (sym x.0 i, x.1 i))
            (subst (SeatOk r.owner r.o r.seat_of hand' id h) (sym role') (subst (λ (n : ℕ). n < r.o.made) (sym worker') mine.0, mine.1 ∙ ap r.seat_of (sym worker'), sym here ∙ ap hand' (sym worker'), ap (look r.o.gathered) worker' ∙ mine.3)))
            (λ (x : (j ≢ id) × (get_elem? s.views j ≡ some u)). others j u u.role x.0 mine.1 (r.each_seat j u x.1))
            (at_set s.views id j h u e);
        has_owner = (set_else s.views id r.owner h (apart_by (λ z. z.role) s.views r.owner id r.o v r.has_owner.0 at (λ e. takes_owns (sym takes ∙ sym e ∙ r.has_owner.1))) ∙ r.has_owner.0, r.has_owner.1);
        has_hand = λ w. at_put r.hand v.worker h (λ i x. i < r.o.made → look r.o.gathered i ≡ None → get_elem? (set s.views id h) (r.seat_of i) ≡ some x) w
            (λ _ _. subst (λ (j : ℕ). get_elem? (set s.views id h) j ≡ some h) mine.1 (set_got s.views id v h at))
            (λ ne lt none. let g = r.has_hand w lt none in
            set_else s.views id (r.seat_of w) h (apart_by (λ z. z.worker) s.views (r.seat_of w) id (r.hand w) v g at (λ e. ne (sym (r.hand_about w).1 ∙ e))) ∙ g);
        each_slot = λ j lt. at_put r.cells k c (λ i x. j ≡ i → SlotOk about i r.o hand' (get_or (set s.words k new) i 0) (get_elem? homes' i) x) j
            (λ _. subst (λ (n : ℕ). SlotOk about k r.o hand' n (get_elem? homes' k) c) (sym (get_or-set_same s.words k new 0 (let w = r.wide in omega arith))) (ok is))
            (λ ne _. let was = r.each_slot j (let l = long in omega arith) in
            let kept = slot_on about j r.o r.o r.hand hand' (get_or s.words j 0) (get_elem? s.homes j) (r.cells j) refl (λ x. x) (λ x. (x, refl))
            (λ w. at_put r.hand v.worker h (λ i x. look x.taken j ≡ look (r.hand i).taken j) w (taken' j ne ∙ ap (λ z. look z.taken j) mine.2) (λ _. refl))
            (λ w. at_put r.hand v.worker h (λ i x. (r.hand i).out ≡ Some j → x.out ≡ Some j) w (λ x. absurd (out j ne (ap (λ z. z.out) mine.2 ∙ x))) (λ _ x. x)) was in
            subst (λ (z : ℕ × maybe.Option (maybe.Option Slot)). SlotOk about j r.o hand' z.0 z.1 (r.cells j)) (λ i. (sym (get_or-set_other s.words k j new 0 ne) i, sym (home j ne) i)) kept)
            refl;
        counted = λ w. let a = counts w in let b = r.counted w in let d = dones_put w r.cells k c (length s.homes) near in
            let l : dones w (put r.cells k c) (length homes') ≡ dones w (put r.cells k c) (length s.homes) = ap (dones w (put r.cells k c)) long in omega (arith, a, b, d, l);
        unmade = λ w le. at_put r.hand v.worker h (λ i x. r.o.made ≤ i → (x ≡ new_hand about i) × (look r.o.gathered i ≡ None)) w (λ x. let m = mine.0 in absurd (omega arith)) (λ _ x. r.unmade w x) le;
        gathers = λ w n. at_put r.hand v.worker h (λ i x. look r.o.gathered i ≡ Some n → n ≡ x.finished) w (λ e. absurd (is_none _ n mine.3 e)) (λ _. r.gathers w n);
      }
    where
      others : (j : ℕ) (u : FlightView) (role : Role) → j ≢ id → id ≡ r.seat_of v.worker → SeatOk r.owner r.o r.seat_of r.hand j u role → SeatOk r.owner r.o r.seat_of (put r.hand v.worker h) j u role
      others j u Owns ne mine q = q
      others j u Takes ne mine q = (q.0, q.1, q.2 ∙ sym (put_else r.hand v.worker u.worker h (λ e. ne (q.1 ∙ ap r.seat_of e ∙ sym mine))), q.3)
      others j u Spent ne mine q = q
