-- A table is opened, hands are made, and hands are joined.
use Rattle.std.proofs.Common.{◌≡◌, ◌≢◌, ℕ, zero, suc, ◌+◌, ◌<◌, List, [], ◌∷◌, ◌++◌, length, map, replicate, set, get_or, inl, refl, sym, ap, ◌∙◌, subst, ⊎_elim, arith, length-set, Some, None}
use Rattle.std.proofs.lemmas.List.{length-map, length-replicate}
use native.Mathlib.Decide.{ℕ_discrete}
use mathlib.Core.Logic.{dite}
use mathlib.Core.Option.{some, some-injective, some-ne-none}
use lib.ListN.{get_elem?}
use Rattle.atomic_table.specs.Table.{opening, Splits, Joins}
use Rattle.atomic_table.proofs.Lists.{at_set, set_else, at_longer}
use Rattle.flight_table.specs.Note.{BookData}
use Rattle.flight_table.specs.declared.rule.Role.{Role}
use Rattle.flight_table.specs.declared.rule.Role.TheVariants.{Owns, Takes, Spent}
use Rattle.flight_table.specs.declared.rule.FlightView.{FlightView}
use Rattle.flight_table.specs.View.{look, times, opened, new_hand, made_one, joined, spent}
use Rattle.flight_table.specs.Rule.{Slot, held, dones, SeatOk, InFlight}
use Rattle.flight_table.proofs.Puts.{put, at_put, put_here, put_else, look_here, look_else, at_snoc_here, set_got, at_end, apart_by, idle, is_none, some_same}
use Rattle.flight_table.proofs.Cells.{no_dones}
use Rattle.flight_table.proofs.Moves.{St, slot_on, takes_owns}

-- the seats of others, where the owner makes a hand
others : (s : St) {about : BookData} (r : InFlight about s) (id : ℕ) (v : FlightView) (j : ℕ) (u : FlightView) (role : Role) → j ≢ id → id ≡ r.owner → r.o ≡ v → SeatOk r.owner r.o r.seat_of r.hand j u role → SeatOk r.owner (made_one v) (put r.seat_of v.made (length s.views)) r.hand j u role
others s r id v j u Owns ne mine is q = absurd (ne (q.0 ∙ sym mine))
others s r id v j u Takes ne mine is q = let g : r.o.made ≡ v.made = ap (λ z. z.made) is in let lt = q.0 in
    (omega (arith, g, lt), q.1 ∙ sym (put_else r.seat_of v.made u.worker (length s.views) (λ e. omega (arith, g, lt, e))), q.2, ap (λ z. look z.gathered u.worker) (sym is) ∙ q.3)
others s r id v j u Spent ne mine is q = q

-- the owner makes a hand
pub owner_splits : (about : BookData) (id : ℕ) (v : FlightView) → v.role ≡ Owns → Splits (InFlight about) id v (made_one v) (new_hand v.about v.made)
owner_splits about id v role s r at =
    let mine : (id ≡ r.owner) × (v ≡ r.o) = subst (SeatOk r.owner r.o r.seat_of r.hand id v) role (r.each_seat id v at) in
    let o' = made_one v in
    let h = new_hand v.about v.made in
    let seats' : ℕ → ℕ = put r.seat_of v.made (length s.views) in
    let ours : v.about ≡ about = ap (λ z. z.about) mine.1 ∙ r.o_about in
    let is = sym mine.1 in
    record {
      owner = r.owner;
      o = o';
      seat_of = seats';
      hand = r.hand;
      cells = r.cells;
      o_about = ours;
      hand_about = r.hand_about;
      wide = r.wide;
      each_seat = λ j u e. ⊎_elim
          (λ was. ⊎_elim
          (λ (x : (j ≡ id) × (o' ≡ u)). subst (λ (y : ℕ × FlightView). SeatOk r.owner o' seats' r.hand y.0 y.1 y.1.role) (λ i. (sym x.0 i, x.1 i)) (subst (SeatOk r.owner o' seats' r.hand id o') (sym role) (mine.0, refl)))
          (λ (x : (j ≢ id) × (get_elem? s.views j ≡ some u)). others s r id v j u u.role x.0 mine.0 is (r.each_seat j u x.1))
          (at_set s.views id j o' u was))
          (λ (x : (h ≡ u) × (j ≡ length (set s.views id o'))). subst (λ (z : FlightView). SeatOk r.owner o' seats' r.hand j z z.role) x.0
          (let g : v.made ≡ r.o.made = ap (λ z. z.made) mine.1 in
          let un = r.unmade v.made (omega (arith, g)) in
          let no_gain : look v.gathered v.made ≡ None = ap (λ z. look z.gathered v.made) mine.1 ∙ un.1 in
          let f : r.hand v.made ≡ h = un.0 ∙ ap (λ b. new_hand b v.made) (sym ours) in
          (omega arith, x.1 ∙ length-set s.views id o' ∙ sym (put_here r.seat_of v.made (length s.views)), sym f, no_gain)))
          (at_snoc_here (set s.views id o') h u j e);
      has_owner = (at_longer (set s.views id o') (h ∷ []) r.owner o' (subst (λ (j : ℕ). get_elem? (set s.views id o') j ≡ some o') mine.0 (set_got s.views id v o' at)), role);
      has_hand = λ w. at_put r.seat_of v.made (length s.views) (λ i j. i < v.made + 1 → look v.gathered i ≡ None → get_elem? (set s.views id o' ++ h ∷ []) j ≡ some (r.hand i)) w
          (λ _ _. let g : v.made ≡ r.o.made = ap (λ z. z.made) mine.1 in
          let f : r.hand v.made ≡ h = (r.unmade v.made (omega (arith, g))).0 ∙ ap (λ b. new_hand b v.made) (sym ours) in
          subst (λ (z : ℕ × FlightView). get_elem? (set s.views id o' ++ h ∷ []) z.0 ≡ some z.1) (λ i. (length-set s.views id o' i, sym f i)) (at_end (set s.views id o') h))
          (λ ne lt none. let g : v.made ≡ r.o.made = ap (λ z. z.made) mine.1 in
          let t = r.has_hand w (omega (arith, g, lt, ne)) (ap (λ z. look z.gathered w) is ∙ none) in
          at_longer (set s.views id o') (h ∷ []) (r.seat_of w) (r.hand w) (set_else s.views id (r.seat_of w) o' (apart_by (λ z. z.role) s.views (r.seat_of w) id (r.hand w) v t at (λ e. takes_owns (sym (r.hand_about w).2 ∙ e ∙ role))) ∙ t));
      each_slot = λ k lt. slot_on about k r.o o' r.hand r.hand (get_or s.words k 0) (get_elem? s.homes k) (r.cells k) (ap (λ z. look z.given k) mine.1) (λ x. ap (λ z. z.out) mine.1 ∙ x) (λ x. (ap (λ z. z.out) is ∙ x, ap (λ z. z.mark) mine.1)) (λ _. refl) (λ _ x. x) (r.each_slot k lt);
      counted = λ w. ap (λ z. times w z.collected + dones w r.cells (length s.homes)) mine.1 ∙ r.counted w;
      unmade = λ w le. let u = r.unmade w (let g : v.made ≡ r.o.made = ap (λ z. z.made) mine.1 in omega (arith, g, le)) in (u.0, ap (λ z. look z.gathered w) mine.1 ∙ u.1);
      gathers = λ w n e. r.gathers w n (ap (λ z. look z.gathered w) is ∙ e);
    }

words_held : (n k : ℕ) → k < n → get_or (replicate {A = ℕ} n 1) k 0 ≡ 1
words_held zero k lt = absurd (omega arith)
words_held (suc n) zero lt = refl
words_held (suc n) (suc k) lt = words_held n k (omega arith)

homes_empty : (n k : ℕ) → k < n → get_elem? (map some (replicate {A = Slot} n None)) k ≡ some (some None)
homes_empty zero k lt = absurd (omega arith)
homes_empty (suc n) zero lt = refl
homes_empty (suc n) (suc k) lt = homes_empty n k (omega arith)

-- a table whose slots the owner holds
pub begins : (about : BookData) (n : ℕ) (ws : List ℕ) → ws ≡ replicate {A = ℕ} n 1 → InFlight about (opening ws (replicate {A = Slot} n None) (opened about 0))
begins about n ws is = subst (λ l. InFlight about (opening l (replicate {A = Slot} n None) (opened about 0))) (sym is) (
    let wide₁ : length (replicate {A = ℕ} n 1) ≡ n = length-replicate n 1 in
    let wide₂ : length (replicate {A = Slot} n None) ≡ n = length-replicate n None in
    let wide₃ : length (map some (replicate {A = Slot} n None)) ≡ n = length-map (replicate {A = Slot} n None) some ∙ wide₂ in
    record {
      owner = 0;
      o = opened about 0;
      seat_of = λ _. 0;
      hand = new_hand about;
      cells = λ _. held;
      o_about = refl;
      hand_about = λ w. (refl, refl, refl);
      has_owner = (refl, refl);
      has_hand = λ w lt none. absurd (omega arith);
      wide = wide₁ ∙ sym wide₃;
      each_seat = one;
      each_slot = λ k lt. let near : k < n = omega (arith, wide₃, lt) in record { shows = words_held n k near; small = omega arith; given = refl; listed = λ w. refl; lies = inl (homes_empty n k near); marked = λ e. absurd (idle None k refl e) };
      counted = λ w. let h = no_dones w (λ _. held) (length (map some (replicate {A = Slot} n None))) (λ _ _. refl) in omega (arith, h);
      unmade = λ w le. (refl, refl);
      gathers = λ w n e. absurd (cc);
    })
  where
    one : (j : ℕ) (v : FlightView) → get_elem? (opened about 0 ∷ []) j ≡ some v → SeatOk 0 (opened about 0) (λ _. 0) (new_hand about) j v v.role
    one zero v e = subst (λ (z : FlightView). SeatOk 0 (opened about 0) (λ _. 0) (new_hand about) 0 z z.role) (some-injective _ _ e) (refl, refl)
    one (suc j) v e = absurd (some-ne-none v (sym e))

left_over : (s : St) {about : BookData} (r : InFlight about s) (v w : FlightView) (j : ℕ) (u : FlightView) (role : Role) (id : ℕ) → j ≢ id → id ≡ r.owner → r.o ≡ v → (j ≡ r.seat_of w.worker → ⊥) → SeatOk r.owner r.o r.seat_of r.hand j u role → SeatOk r.owner (joined v w) r.seat_of r.hand j u role
left_over s r v w j u Owns id ne mine is apart q = absurd (ne (q.0 ∙ sym mine))
left_over s r v w j u Takes id ne mine is apart q = let g : r.o.made ≡ v.made = ap (λ z. z.made) is in let lt = q.0 in
    (omega (arith, g, lt), q.1, q.2, look_else w.worker (Some w.finished) u.worker v.gathered (λ e. apart (q.1 ∙ ap r.seat_of e)) ∙ ap (λ z. look z.gathered u.worker) (sym is) ∙ q.3)
left_over s r v w j u Spent id ne mine is apart q = q

-- the owner takes a hand in
pub owner_joins : (about : BookData) (id : ℕ) (v : FlightView) (other : ℕ) (w : FlightView) → v.role ≡ Owns → w.role ≡ Takes → Joins (InFlight about) id v other w (joined v w) spent
owner_joins about id v other w role role' s r at apart there =
    let mine : (id ≡ r.owner) × (v ≡ r.o) = subst (SeatOk r.owner r.o r.seat_of r.hand id v) role (r.each_seat id v at) in
    let o' = joined v w in
    let there' = ⊎_elim (λ (t : (other ≡ id) × (o' ≡ w)). absurd (apart t.0)) (λ (t : (other ≢ id) × (get_elem? s.views other ≡ some w)). t.1) (at_set s.views id other o' w there) in
    let theirs : (w.worker < r.o.made) × (other ≡ r.seat_of w.worker) × (w ≡ r.hand w.worker) × (look r.o.gathered w.worker ≡ None) = subst (SeatOk r.owner r.o r.seat_of r.hand other w) role' (r.each_seat other w there') in
    let is = sym mine.1 in
    record {
      owner = r.owner;
      o = o';
      seat_of = r.seat_of;
      hand = r.hand;
      cells = r.cells;
      o_about = ap (λ z. z.about) mine.1 ∙ r.o_about;
      hand_about = r.hand_about;
      wide = r.wide;
      each_seat = λ j u e. ⊎_elim
          (λ (x : (j ≡ other) × (spent ≡ u)). subst (λ (z : FlightView). SeatOk r.owner o' r.seat_of r.hand j z z.role) x.1 refl)
          (λ (x : (j ≢ other) × (get_elem? (set s.views id o') j ≡ some u)). ⊎_elim
          (λ (y : (j ≡ id) × (o' ≡ u)). subst (λ (z : ℕ × FlightView). SeatOk r.owner o' r.seat_of r.hand z.0 z.1 z.1.role) (λ i. (sym y.0 i, y.1 i)) (subst (SeatOk r.owner o' r.seat_of r.hand id o') (sym role) (mine.0, refl)))
          (λ (y : (j ≢ id) × (get_elem? s.views j ≡ some u)). left_over s r v w j u u.role id y.0 mine.0 is (λ q. x.0 (q ∙ sym theirs.1)) (r.each_seat j u y.1))
          (at_set s.views id j o' u x.1))
          (at_set (set s.views id o') other j spent u e);
      has_owner = (set_else (set s.views id o') other r.owner spent (λ e. apart (sym e ∙ sym mine.0)) ∙ subst (λ (j : ℕ). get_elem? (set s.views id o') j ≡ some o') mine.0 (set_got s.views id v o' at), role);
      has_hand = λ u lt none. dite (ℕ_discrete u w.worker)
          (λ same. absurd (is_none (look o'.gathered u) w.finished none (subst (λ (i : ℕ). look o'.gathered i ≡ Some w.finished) (sym same) (look_here w.worker (Some w.finished) v.gathered))))
          (λ ne. let g : v.made ≡ r.o.made = ap (λ z. z.made) mine.1 in
          let t = r.has_hand u (omega (arith, g, lt)) (ap (λ z. look z.gathered u) is ∙ sym (look_else w.worker (Some w.finished) u v.gathered ne) ∙ none) in
          set_else (set s.views id o') other (r.seat_of u) spent (apart_by (λ z. z.worker) s.views (r.seat_of u) other (r.hand u) w t there' (λ e. ne (sym (r.hand_about u).1 ∙ e)))
          ∙ set_else s.views id (r.seat_of u) o' (apart_by (λ z. z.role) s.views (r.seat_of u) id (r.hand u) v t at (λ e. takes_owns (sym (r.hand_about u).2 ∙ e ∙ role))) ∙ t);
      each_slot = λ k lt. slot_on about k r.o o' r.hand r.hand (get_or s.words k 0) (get_elem? s.homes k) (r.cells k) (ap (λ z. look z.given k) mine.1) (λ x. ap (λ z. z.out) mine.1 ∙ x) (λ x. (ap (λ z. z.out) is ∙ x, ap (λ z. z.mark) mine.1)) (λ _. refl) (λ _ x. x) (r.each_slot k lt);
      counted = λ u. ap (λ z. times u z.collected + dones u r.cells (length s.homes)) mine.1 ∙ r.counted u;
      unmade = λ u le. let g : v.made ≡ r.o.made = ap (λ z. z.made) mine.1 in let lt = theirs.0 in let un = r.unmade u (omega (arith, g, le)) in
          (un.0, look_else w.worker (Some w.finished) u v.gathered (λ e. omega (arith, e, g, le, lt)) ∙ ap (λ z. look z.gathered u) mine.1 ∙ un.1);
      gathers = λ u n e. dite (ℕ_discrete u w.worker)
          (λ same. subst (λ (i : ℕ). look o'.gathered i ≡ Some n → n ≡ (r.hand i).finished) (sym same) (λ g. some_same n w.finished (sym g ∙ look_here w.worker (Some w.finished) v.gathered) ∙ ap (λ z. z.finished) theirs.2) e)
          (λ other. r.gathers u n (ap (λ z. look z.gathered u) is ∙ sym (look_else w.worker (Some w.finished) u v.gathered other) ∙ e));
    }
