-- Each step of a book keeps its rule.
use Rattle.std.proofs.Common.{◌≡◌, ◌≢◌, ℕ, zero, suc, ◌+◌, ◌%◌, ◌<◌, ◌^◌, List, [], ◌∷◌, ◌++◌, length, set, Some, None, true, false, true≢false, refl, sym, ap, ◌∙◌, subst, ⊎_elim, arith, length-append}
use Rattle.std.specs.Prelude.{slice_get, slice_index}
use mathlib.Core.Option.{some, some-ne-none, some-injective}
use lib.ListN.{get_elem?}
use Rattle.atomic_table.specs.Table.{State, Me, step, keeps, Allows, Splits, Joins}
use Rattle.atomic_table.proofs.Lists.{at_set, at_snoc, set_again}
use Rattle.flight_table.specs.declared.book.Drawn.{Drawn}
use Rattle.flight_table.specs.declared.book.BookView.{BookView}
use Rattle.flight_table.specs.Note.{owner_of, note_of, nobody, one_later, newest_note, newest, shown, Fits, Kept, draws, compares}

-- the note for what is drawn next
pub new_note : (all : List Drawn) (e : Drawn) → newest_note (all ++ e ∷ []) ≡ note_of (length all) (Some e)
new_note [] e = refl
new_note (x ∷ []) e = refl
new_note (x ∷ y ∷ ys) e = ap one_later (new_note (y ∷ ys) e)

-- a note for what was drawn last has what stands under its number
newest_fits : (all : List Drawn) (e : Drawn) → (newest_note all).entry ≡ Some e → slice_get all (newest_note all).number ≡ Some e
newest_fits [] e h = absurd (cc)
newest_fits (x ∷ []) e h = h
newest_fits (x ∷ y ∷ ys) e h = newest_fits (y ∷ ys) e h

newest_owns : (all : List Drawn) → (newest_note all).owns ≡ false
newest_owns [] = refl
newest_owns (x ∷ []) = refl
newest_owns (x ∷ y ∷ ys) = refl

slice_get_front : (xs ys : List Drawn) (k : ℕ) (p : Drawn) → slice_get xs k ≡ Some p → slice_get (xs ++ ys) k ≡ Some p
slice_get_front [] ys k p e = absurd (cc)
slice_get_front (x ∷ xs) ys zero p e = e
slice_get_front (x ∷ xs) ys (suc k) p e = slice_get_front xs ys k p e

fits_set : (owner : ℕ) (log : List Drawn) (views : List BookView) (by : ℕ) (w : BookView) → ((j : ℕ) (u : BookView) → j ≢ by → get_elem? views j ≡ some u → Fits owner log j u) → Fits owner log by w → (j : ℕ) (u : BookView) → get_elem? (set views by w) j ≡ some u → Fits owner log j u
fits_set owner log views by w others mine j u e =
    ⊎_elim
    (λ (x : (j ≡ by) × (w ≡ u)). subst (λ (y : ℕ × BookView). Fits owner log y.0 y.1) (λ i. (sym x.0 i, x.1 i)) mine)
    (λ (x : (j ≢ by) × (get_elem? views j ≡ some u)). others j u x.0 x.1)
    (at_set views by j w u e)

off : false ≡ true → ⊥
off e = true≢false (sym e)

no_entry : (e : Drawn) → None ≡ Some e → ⊥
no_entry e h = cc

St : Type 0
St = State Unit BookView

pub begins : Kept record { words = 0 ∷ []; homes = []; views = owner_of [] ∷ [] }
begins = (0, [], refl, one)
  where
    one : (by : ℕ) (v : BookView) → get_elem? (owner_of [] ∷ []) by ≡ some v → Fits 0 [] by v
    one zero v e = subst (Fits 0 [] 0) (some-injective _ _ e) ((λ _. (refl, refl)), (λ x h. absurd (no_entry x h)))
    one (suc by) v e = absurd (some-ne-none v (sym e))

-- the owner draws
pub adds : (slots id : ℕ) (all : List Drawn) (e : Drawn) → length all < 2 ^ 58 → Allows Kept slots id (owner_of all, []) 0 (λ n. (n + 1) % 2 ^ 64) (draws (e ∷ []) (step slots 0 1 0 mathlib.Core.Option.none) (owner_of all, []))
adds slots id all e few s h _ at _ =
    let mine = (h.3 id (owner_of all) at).0 refl in
    let w = owner_of (all ++ e ∷ []) in
    let log = h.1 ++ e ∷ [] in
    let same : length all ≡ length h.1 = ap length mine.1 in
    let found : slice_index s.words 0 ≡ length h.1 = ap (λ (ws : List ℕ). slice_index ws 0) h.2 in
    let next : (slice_index s.words 0 + 1) % 2 ^ 64 ≡ length log = omega (arith, found, length-append h.1 (e ∷ [])) in (
      w,
      keeps,
      tt,
      (
        h.0,
        log,
        ap (λ (ws : List ℕ). set ws 0 ((slice_index s.words 0 + 1) % 2 ^ 64)) h.2 ∙ ap (λ (k : ℕ). k ∷ []) next,
        fits_set h.0 log s.views id w
            (λ j u apart g. ((λ k. absurd (apart (((h.3 j u g).0 k).0 ∙ sym mine.0))), (λ x c. slice_get_front h.1 (e ∷ []) u.number x ((h.3 j u g).1 x c))))
            ((λ _. (mine.0, ap (λ l. l ++ e ∷ []) mine.1)), (λ x c. absurd (no_entry x c))),
      ),
      (found ∙ sym same, refl),
    )

-- the owner compares a note with what it drew
pub checks : (slots id : ℕ) (v : BookView) → v.owns ≡ true → Allows Kept slots id (v, []) 0 (λ n. n) (compares (step slots 0 0 0 mathlib.Core.Option.none) (v, []))
checks slots id v owns s h _ at _ =
    let mine = h.3 id v at in
    let known = mine.0 owns in
    let w = owner_of v.drawn in (
      w,
      keeps,
      tt,
      (
        h.0,
        h.1,
        ap (λ (ws : List ℕ). set ws 0 (slice_index ws 0)) h.2,
        fits_set h.0 h.1 s.views id w (λ j u apart g. h.3 j u g) ((λ _. known), (λ x c. absurd (no_entry x c))),
      ),
      (refl, λ x c. subst (λ l. slice_get l v.number ≡ Some x) (sym known.1) (mine.1 x c)),
    )

-- the owner makes a note
pub gives : (id : ℕ) (all : List Drawn) → Splits Kept id (owner_of all) (owner_of all) (newest (owner_of all))
gives id all s h at =
    let mine = (h.3 id (owner_of all) at).0 refl in (
      h.0,
      h.1,
      h.2,
      λ j u e. ⊎_elim
          (λ was. h.3 j u (subst (λ l. get_elem? l j ≡ some u) (set_again s.views id (owner_of all) at) was))
          (λ (same : newest (owner_of all) ≡ u). subst (Fits h.0 h.1 j) same
          ((λ k. absurd (off (sym (newest_owns all) ∙ k))), (λ x c. subst (λ l. slice_get l (newest_note all).number ≡ Some x) mine.1 (newest_fits all x c))))
          (at_snoc (set s.views id (owner_of all)) (newest (owner_of all)) u j e),
    )

-- the owner takes in a note
pub takes_in : (id : ℕ) (all : List Drawn) (other : ℕ) (u : BookView) → Joins Kept id (owner_of all) other u (shown (owner_of all) u) nobody
takes_in id all other u s h at apart there =
    let w = shown (owner_of all) u in
    let mine = (h.3 id (owner_of all) at).0 refl in
    let theirs = ⊎_elim (λ (t : (other ≡ id) × (w ≡ u)). absurd (apart t.0)) (λ (t : (other ≢ id) × (get_elem? s.views other ≡ some u)). h.3 other u t.1) (at_set s.views id other w u there) in
    (h.0, h.1, h.2, fits_set h.0 h.1 (set s.views id w) other nobody (λ j v _ e. fits_set h.0 h.1 s.views id w (λ i y _ g. h.3 i y g) ((λ _. mine), theirs.1) j v e) ((λ k. absurd (off k)), (λ x c. absurd (no_entry x c))))

-- the same at a seat that is known
pub adds_as : (slots id : ℕ) (me : Me Unit BookView) (e : Drawn) (all more : List Drawn) → length all < 2 ^ 58 → more ≡ e ∷ [] → me ≡ (owner_of all, []) → Allows Kept slots id me 0 (λ n. (n + 1) % 2 ^ 64) (draws more (step slots 0 1 0 mathlib.Core.Option.none) me)
adds_as slots id me e all more few one is = subst (λ (m : Me Unit BookView × List Drawn). Allows Kept slots id m.0 0 (λ n. (n + 1) % 2 ^ 64) (draws m.1 (step slots 0 1 0 mathlib.Core.Option.none) m.0)) (λ i. (sym is i, sym one i)) (adds slots id all e few)

pub gives_as : (id : ℕ) (v : BookView) (all : List Drawn) → v ≡ owner_of all → Splits Kept id v v (newest v)
gives_as id v all is = subst (λ (u : BookView). Splits Kept id u u (newest u)) (sym is) (gives id all)

pub takes_in_as : (id : ℕ) (v : BookView) (all : List Drawn) (other : ℕ) (u : BookView) → v ≡ owner_of all → Joins Kept id v other u (shown v u) nobody
takes_in_as id v all other u is = subst (λ (x : BookView). Joins Kept id x other u (shown x u) nobody) (sym is) (takes_in id all other u)

pub checks_as : (slots id : ℕ) (me : Me Unit BookView) (v : BookView) → v.owns ≡ true → me ≡ (v, []) → Allows Kept slots id me 0 (λ n. n) (compares (step slots 0 0 0 mathlib.Core.Option.none) me)
checks_as slots id me v owns is = subst (λ (m : Me Unit BookView). Allows Kept slots id m 0 (λ n. n) (compares (step slots 0 0 0 mathlib.Core.Option.none) m)) (sym is) (checks slots id v owns)

pub one_view : (v w : BookView) → v ∷ [] ≡ w ∷ [] → v ≡ w
one_view v w e = ap (λ l. head_or w l) e
  where
    head_or : BookView → List BookView → BookView
    head_or d [] = d
    head_or d (x ∷ xs) = x
