-- A function that is changed at one number, and lists of keys with values.
use Rattle.std.proofs.Common.{◌≡◌, ◌≢◌, ℕ, zero, suc, ◌+◌, ◌⊎◌, inl, inr, ⊎_elim, if◌then◌else◌, eq-eqb, ne_eqb, List, [], ◌∷◌, ◌++◌, length, set, refl, sym, ap, ◌∙◌, subst, arith, Option, Some, None}
use native.Mathlib.Decide.{ℕ_discrete}
use mathlib.Core.Path.{Path}
use mathlib.Core.Option.{some, some-injective, some-ne-none}
use lib.ListN.{get_elem?}
use Rattle.flight_table.specs.View.{look, times}

abbrev pick : {A P : Type 0} → Dec P → A → A → A
pick (yes _) a b = a
pick (no _) a b = b

module _ {A : Type 0} where
  pub put : (ℕ → A) → ℕ → A → ℕ → A
  put f i c j = pick (ℕ_discrete j i) c (f j)

  -- what holds of the new value at i, and of each other value, holds after
  pub at_put : (f : ℕ → A) (i : ℕ) (c : A) (F : ℕ → A → Type 0) (j : ℕ) → F i c → (j ≢ i → F j (f j)) → F j (put f i c j)
  unfolding put
  at_put f i c F j here other = go (ℕ_discrete j i)
    where
      go : (d : Dec (j ≡ i)) → F j (pick d c (f j))
      go (yes e) = subst (λ (k : ℕ). F k c) (sym e) here
      go (no n) = other n

  pub put_here : (f : ℕ → A) (i : ℕ) (c : A) → Path A (put f i c i) c
  put_here f i c = at_put f i c (λ q x. q ≡ i → Path A x c) i (λ _. refl) (λ n. absurd (n refl)) refl

  pub put_else : (f : ℕ → A) (i j : ℕ) (c : A) → j ≢ i → Path A (put f i c j) (f j)
  put_else f i j c ne = at_put f i c (λ q x. q ≡ j → Path A x (f j)) j (λ e. absurd (ne (sym e))) (λ _ e. refl) refl

  pub look_here : (k : ℕ) (n : Option A) (l : List (ℕ × Option A)) → look ((k, n) ∷ l) k ≡ n
  look_here k n l = ap (λ b. if b then n else look l k) (eq-eqb k k refl)

  pub look_else : (k : ℕ) (n : Option A) (j : ℕ) (l : List (ℕ × Option A)) → j ≢ k → look ((k, n) ∷ l) j ≡ look l j
  look_else k n j l ne = ap (λ b. if b then n else look l j) (ne_eqb j k ne)

  pub at_snoc_here : (l : List A) (a b : A) (j : ℕ) → get_elem? (l ++ a ∷ []) j ≡ some b → (get_elem? l j ≡ some b) ⊎ ((a ≡ b) × (j ≡ length l))
  at_snoc_here [] a b zero e = inr (some-injective a b e, refl)
  at_snoc_here [] a b (suc j) e = absurd (some-ne-none b (sym e))
  at_snoc_here (x ∷ xs) a b zero e = inl e
  at_snoc_here (x ∷ xs) a b (suc j) e = ⊎_elim inl (λ t. inr (t.0, ap suc t.1)) (at_snoc_here xs a b j e)

-- a seat whose view is changed has the new one, and so has a new seat at the end
module _ {A : Type 0} where
  pub set_got : (l : List A) (i : ℕ) (a b : A) → get_elem? l i ≡ some a → get_elem? (set l i b) i ≡ some b
  set_got [] i a b e = absurd (some-ne-none a (sym e))
  set_got (x ∷ xs) zero a b e = refl
  set_got (x ∷ xs) (suc i) a b e = set_got xs i a b e

  pub at_end : (l : List A) (a : A) → get_elem? (l ++ a ∷ []) (length l) ≡ some a
  at_end [] a = refl
  at_end (x ∷ xs) a = at_end xs a

  -- two seats whose views differ
  pub apart_by : {B : Type 0} (f : A → B) (l : List A) (i j : ℕ) (a b : A) → get_elem? l i ≡ some a → get_elem? l j ≡ some b → (f a ≡ f b → ⊥) → i ≢ j
  apart_by f l i j a b p q differ e = differ (ap f (some-injective a b (sym p ∙ ap (get_elem? l) e ∙ q)))

pub times_here : (w : ℕ) (l : List ℕ) → times w (w ∷ l) ≡ times w l + 1
times_here w l = let e = ap (λ b. (if b then 1 else 0) + times w l) (eq-eqb w w refl) in omega (arith, e)

pub times_else : (w u : ℕ) (l : List ℕ) → u ≢ w → times u (w ∷ l) ≡ times u l
times_else w u l ne = let e = ap (λ b. (if b then 1 else 0) + times u l) (ne_eqb u w ne) in omega (arith, e)

pub none_some : {A : Type 0} (x : A) → None ≡ Some x → ⊥
none_some x e = cc

value_or : {A : Type 0} → A → Option A → A
value_or d None = d
value_or d (Some x) = x

pub some_same : {A : Type 0} (x y : A) → Some x ≡ Some y → x ≡ y
unfolding value_or
some_same x y e = ap (value_or x) e

-- a slot that isn't out, and one beside that which is
pub idle : (out : Option ℕ) (j : ℕ) → out ≡ None → out ≢ Some j
idle out j z e = none_some j (sym z ∙ e)

pub elsewhere : (out : Option ℕ) (k j : ℕ) → out ≡ Some k → j ≢ k → out ≢ Some j
elsewhere out k j z ne e = ne (some_same j k (sym e ∙ z))

pub is_none : {A : Type 0} (o : Option A) (x : A) → o ≡ None → o ≢ Some x
is_none o x z e = none_some x (sym z ∙ e)
