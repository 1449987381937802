-- Lists by index, and as they are taken from the front.
use Rattle.std.proofs.Common.{◌≡◌, ◌≢◌, ℕ, zero, suc, ◌+◌, ◌-◌, ◌*◌, ◌/◌, ◌%◌, ◌<◌, ◌≤◌, ◌⊎◌, inl, inr, add-one, List, [], ◌∷◌, ◌++◌, length, take, drop, refl, sym, ap, ◌∙◌, subst, arith, Some}
use Rattle.std.specs.Prelude.{slice_get, slice_set, slice_index_or}
use Rattle.std.specs.List.{All}
use Rattle.std.proofs.Math.Nat.{div-add-mod, lt_of_mul-lt-mul_left, mul-le-mul_left, mul-suc}
use Rattle.std.proofs.lemmas.List.{drop-append-le, take-take}
use Rattle.std.proofs.lemmas.List.Elements.{All-same, All-take, All-head, All-tail}

-- Slots of numbers

apart_at : (n q r d : ℕ) → 0 < d → d < n → n * r ≡ n * q + d → ⊥
apart_at n q r d pos lt e =
    let up : q < r = lt_of_mul-lt-mul_left n (omega (arith, e, pos)) in
    let more : n * suc q ≤ n * r = mul-le-mul_left n (omega (arith, up)) in
    let s : n * suc q ≡ n * q + n = mul-suc n q in
    omega (arith, more, s, e, lt)

-- two numbers less than n apart lie in different slots
pub mod_apart : (n a d : ℕ) → 0 < d → d < n → (a + d) % n ≢ a % n
mod_apart n a d pos lt same =
    let x = div-add-mod a n in
    let y = div-add-mod (a + d) n in
    apart_at n (a / n) ((a + d) / n) d pos lt (omega (arith, x, y, same))

order : (i j : ℕ) → i ≢ j → (i < j) ⊎ (j < i)
order zero zero ne = absurd (ne refl)
order zero (suc j) ne = inl (omega arith)
order (suc i) zero ne = inr (omega arith)
order (suc i) (suc j) ne = go (order i j (λ e. ne (ap suc e)))
  where
    go : (i < j) ⊎ (j < i) → (suc i < suc j) ⊎ (suc j < suc i)
    go (inl l) = inl (omega (arith, l))
    go (inr l) = inr (omega (arith, l))

pub far : (n a i j : ℕ) → i < n → j < n → i ≢ j → (a + i) % n ≢ (a + j) % n
far n a i j li lj ne same = go (order i j ne)
  where
    go : (i < j) ⊎ (j < i) → ⊥
    go (inl l) = mod_apart n (a + i) (j - i) (omega (arith, l)) (omega (arith, lj))
        (subst (λ (z : ℕ). z % n ≡ (a + i) % n) {x = a + j} {y = a + i + (j - i)} (omega (arith, l)) (sym same))
    go (inr l) = mod_apart n (a + j) (i - j) (omega (arith, l)) (omega (arith, li))
        (subst (λ (z : ℕ). z % n ≡ (a + j) % n) {x = a + i} {y = a + j + (i - j)} (omega (arith, l)) same)

module _ {A : Type 0} where
  -- By index

  -- where an index is inside, what stands for an element outside doesn't matter
  pub any_default : (xs : List A) (i : ℕ) (d e : A) → i < length xs → slice_index_or xs i d ≡ slice_index_or xs i e
  any_default [] i d e lt = absurd (omega (arith, lt))
  any_default (x ∷ xs) zero d e lt = refl
  any_default (x ∷ xs) (suc i) d e lt = any_default xs i d e (omega (arith, lt))

  pub get_index : (xs : List A) (i : ℕ) (d : A) → i < length xs → slice_get xs i ≡ Some (slice_index_or xs i d)
  get_index [] i d lt = absurd (omega (arith, lt))
  get_index (x ∷ xs) zero d lt = refl
  get_index (x ∷ xs) (suc i) d lt = get_index xs i d (omega (arith, lt))

  pub some_at : (xs : List A) (i : ℕ) → i < length xs → (x : A) × (slice_get xs i ≡ Some x)
  some_at [] i lt = absurd (omega (arith, lt))
  some_at (x ∷ xs) zero lt = (x, refl)
  some_at (x ∷ xs) (suc i) lt = some_at xs i (omega (arith, lt))

  pub get_front : (xs ys : List A) (k : ℕ) (p : A) → slice_get xs k ≡ Some p → slice_get (xs ++ ys) k ≡ Some p
  get_front [] ys k p e = absurd (cc)
  get_front (x ∷ xs) ys zero p e = e
  get_front (x ∷ xs) ys (suc k) p e = get_front xs ys k p e

  pub get_last : (xs : List A) (y : A) → slice_get (xs ++ y ∷ []) (length xs) ≡ Some y
  get_last [] y = refl
  get_last (x ∷ xs) y = get_last xs y

  pub get_snoc : (xs : List A) (y : A) (k : ℕ) (p : A) → slice_get (xs ++ y ∷ []) k ≡ Some p → (slice_get xs k ≡ Some p) ⊎ ((p ≡ y) × (k ≡ length xs))
  get_snoc [] y zero p e = inr (cc, refl)
  get_snoc [] y (suc k) p e = absurd (cc)
  get_snoc (x ∷ xs) y zero p e = inl e
  get_snoc (x ∷ xs) y (suc k) p e = go (get_snoc xs y k p e)
    where
      go : (slice_get xs k ≡ Some p) ⊎ ((p ≡ y) × (k ≡ length xs)) → (slice_get xs k ≡ Some p) ⊎ ((p ≡ y) × (suc k ≡ suc (length xs)))
      go (inl a) = inl a
      go (inr a) = inr (a.0, ap suc a.1)

  -- One element is set

  pub set_split : (xs : List A) (i : ℕ) (y : A) (j : ℕ) (x : A) → slice_get (slice_set xs i y) j ≡ Some x → (slice_get xs j ≡ Some x × (j ≢ i)) ⊎ ((x ≡ y) × (j ≡ i))
  set_split [] i y j x e = absurd (cc)
  set_split (z ∷ zs) zero y zero x e = inr (cc, refl)
  set_split (z ∷ zs) zero y (suc j) x e = inl (e, λ n. omega (arith, n))
  set_split (z ∷ zs) (suc i) y zero x e = inl (e, λ n. omega (arith, n))
  set_split (z ∷ zs) (suc i) y (suc j) x e = go (set_split zs i y j x e)
    where
      go : (slice_get zs j ≡ Some x × (j ≢ i)) ⊎ ((x ≡ y) × (j ≡ i)) → (slice_get zs j ≡ Some x × (suc j ≢ suc i)) ⊎ ((x ≡ y) × (suc j ≡ suc i))
      go (inl a) = inl (a.0, λ n. a.1 (omega (arith, n)))
      go (inr a) = inr (a.0, ap suc a.1)

  pub get_set : (xs : List A) (i j : ℕ) (y : A) → j ≢ i → slice_get (slice_set xs i y) j ≡ slice_get xs j
  get_set [] i j y ne = refl
  get_set (z ∷ zs) zero zero y ne = absurd (ne refl)
  get_set (z ∷ zs) zero (suc j) y ne = refl
  get_set (z ∷ zs) (suc i) zero y ne = refl
  get_set (z ∷ zs) (suc i) (suc j) y ne = get_set zs i j y (λ e. ne (ap suc e))

  pub get_here : (xs : List A) (i : ℕ) (y : A) → i < length xs → slice_get (slice_set xs i y) i ≡ Some y
  get_here [] i y lt = absurd (omega (arith, lt))
  get_here (z ∷ zs) zero y lt = refl
  get_here (z ∷ zs) (suc i) y lt = get_here zs i y (omega (arith, lt))

  pub set_again : (xs : List A) (i : ℕ) (x y : A) → slice_set (slice_set xs i x) i y ≡ slice_set xs i y
  set_again [] i x y = refl
  set_again (z ∷ zs) zero x y = refl
  set_again (z ∷ zs) (suc i) x y = ap (λ l. z ∷ l) (set_again zs i x y)

  pub set_same : (xs : List A) (i : ℕ) (x : A) → slice_get xs i ≡ Some x → slice_set xs i x ≡ xs
  set_same [] i x e = absurd (cc)
  set_same (z ∷ zs) zero x e = ap (λ u. u ∷ zs) {x = x} {y = z} (cc)
  set_same (z ∷ zs) (suc i) x e = ap (λ l. z ∷ l) (set_same zs i x e)

  -- From the front

  front_next-suc : (xs : List A) (i : ℕ) (x : A) (r : List A) → drop i xs ≡ x ∷ r → take (suc i) xs ≡ take i xs ++ x ∷ []
  front_next-suc [] zero x r e = cc
  front_next-suc [] (suc i) x r e = cc
  front_next-suc (y ∷ ys) zero x r e = cc
  front_next-suc (y ∷ ys) (suc i) x r e = ap (λ l. y ∷ l) (front_next-suc ys i x r e)

  rest_next-suc : (xs : List A) (i : ℕ) (x : A) (r : List A) → drop i xs ≡ x ∷ r → drop (suc i) xs ≡ r
  rest_next-suc [] zero x r e = cc
  rest_next-suc [] (suc i) x r e = cc
  rest_next-suc (y ∷ ys) zero x r e = cc
  rest_next-suc (y ∷ ys) (suc i) x r e = rest_next-suc ys i x r e

  pub front_next : (xs : List A) (i : ℕ) (x : A) (r : List A) → drop i xs ≡ x ∷ r → take (i + 1) xs ≡ take i xs ++ x ∷ []
  front_next xs i x r e = rw add-one (front_next-suc xs i x r e)

  pub rest_next : (xs : List A) (i : ℕ) (x : A) (r : List A) → drop i xs ≡ x ∷ r → drop (i + 1) xs ≡ r
  rest_next xs i x r e = rw add-one (rest_next-suc xs i x r e)

  pub behind_next : (begin xs : List A) (n : ℕ) (x : A) → length xs ≡ length begin + n → drop (length begin) (xs ++ x ∷ []) ≡ drop (length begin) xs ++ x ∷ []
  behind_next begin xs n x e = drop-append-le (length begin) xs (x ∷ []) (omega arith)

  take_nil : (n : ℕ) → take {A = A} n [] ≡ []
  take_nil zero = refl
  take_nil (suc n) = refl

  drop_nil : (n : ℕ) → drop {A = A} n [] ≡ []
  drop_nil zero = refl
  drop_nil (suc n) = refl

  pub take_and : (xs : List A) (a b : ℕ) → take (a + b) xs ≡ take a xs ++ take b (drop a xs)
  take_and [] a b = take_nil (a + b) ∙ sym ((λ i. take_nil a i ++ take b (drop_nil a i)) ∙ take_nil b)
  take_and (x ∷ xs) zero b = ap (λ n. take n (x ∷ xs)) (omega arith)
  take_and (x ∷ xs) (suc a) b = ap (λ n. take n (x ∷ xs)) {x = suc a + b} {y = suc (a + b)} (omega arith) ∙ ap (λ l. x ∷ l) (take_and xs a b)

  pub drop_and : (xs : List A) (a b : ℕ) → drop b (drop a xs) ≡ drop (a + b) xs
  drop_and xs zero b = ap (λ n. drop n xs) (omega arith)
  drop_and [] (suc a) b = drop_nil b ∙ sym (drop_nil (suc a + b))
  drop_and (x ∷ xs) (suc a) b = drop_and xs a b ∙ ap (λ n. drop n (x ∷ xs)) {x = suc (a + b)} {y = suc a + b} (omega arith)

  -- what holds of the first ones holds of fewer, of the next one, and of those behind
  pub all_fewer : (P : A → Type 0) (xs : List A) (k m : ℕ) → k ≤ m → All P (take m xs) → All P (take k xs)
  all_fewer P xs k m h all = All-same P (take k xs) (take k (take m xs)) (sym (take-take k m xs h)) (All-take P k (take m xs) all)

  pub all_behind : (P : A → Type 0) (xs : List A) (a n m : ℕ) → a + m ≤ n → All P (take n xs) → All P (take m (drop a xs))
  all_behind P xs zero n m le all = all_fewer P xs m n (omega (arith, le)) all
  all_behind P [] (suc a) n m le all = All-same P (take m (drop (suc a) [])) (take 0 []) (ap (λ l. take m l) (drop_nil (suc a)) ∙ take_nil m) (all_fewer P [] 0 n (omega arith) all)
  all_behind P (x ∷ xs) (suc a) zero m le all = absurd (omega (arith, le))
  all_behind P (x ∷ xs) (suc a) (suc n) m le all = all_behind P xs a n m (omega (arith, le)) (All-tail P x (take n xs) all)

  pub all_next : (P : A → Type 0) (xs : List A) (n i : ℕ) (x : A) (r : List A) → drop i xs ≡ x ∷ r → i < n → All P (take n xs) → P x
  all_next P [] n zero x r e lt all = absurd (cc)
  all_next P [] n (suc i) x r e lt all = absurd (cc)
  all_next P (y ∷ ys) zero i x r e lt all = absurd (omega (arith, lt))
  all_next P (y ∷ ys) (suc n) zero x r e lt all = let s : y ≡ x = cc in subst (λ z. P z) s (All-head P y (take n ys) all)
  all_next P (y ∷ ys) (suc n) (suc i) x r e lt all = all_next P ys n i x r e (omega (arith, lt)) (All-tail P y (take n ys) all)
