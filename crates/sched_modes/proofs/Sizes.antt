-- Operations by their sizes.
use Rattle.std.proofs.Common.{◌≡◌, ◌≢◌, ℕ, zero, suc, ◌+◌, ◌==◌, ◌<◌, ◌≤◌, Bool, true, false, cond, List, [], ◌∷◌, ◌++◌, length, get_or, map, take, Option, None, Some, inl, inr, refl, ap, ◌∙◌, sym, arith, length-append}
use Rattle.std.specs.Prelude.{nat_lt, if◌then◌else◌}
use Rattle.std.specs.List.{filter}
use Rattle.std.proofs.lemmas.Bool.Decides.{eqb_tells}
use Rattle.crypto_op.specs.declared.op.Op.{Op}
use Rattle.crypto_op.specs.Op.{data_len_of}
use Rattle.crypto_op.specs.Burst.{Burst}
use Rattle.dev_core.specs.Burst.{front_log, lens, log_entry}
use Rattle.dev_core.specs.declared.driver.LogEntry.{LogEntry}
use Rattle.sched_modes.specs.Crew.{Places, of_size, only_for, share, size_worker, told, total}

joined : {X : Type 0} (b : Bool) (x : X) (xs ys zs : List X) → zs ≡ xs ++ ys → cond b (x ∷ zs) zs ≡ cond b (x ∷ xs) xs ++ ys
joined true x xs ys zs e = ap (λ l. x ∷ l) e
joined false x xs ys zs e = e

filter-append : {X : Type 0} (p : X → Bool) (xs ys : List X) → filter p (xs ++ ys) ≡ filter p xs ++ filter p ys
filter-append p [] ys = refl
filter-append p (x ∷ xs) ys = joined (p x) x (filter p xs) (filter p ys) (filter p (xs ++ ys)) (filter-append p xs ys)

pub of_size-append : (t k : ℕ) (xs ys : List LogEntry) → of_size t k (xs ++ ys) ≡ of_size t k xs ++ of_size t k ys
of_size-append t k xs ys = filter-append (λ e. k == size_worker t e.data_len) xs ys

-- at most one operation, of the worker j
pub of_size-one : (t j k : ℕ) (es : List LogEntry) → length es ≤ 1 → ((e : LogEntry) → es ≡ e ∷ [] → size_worker t e.data_len ≡ j) → of_size t k es ≡ only_for j es k
of_size-one t j k [] h f = elim (eqb_tells k j) [ inl i ↦ rw i.0 refl | inr i ↦ rw i.0 refl ]
of_size-one t j k (e ∷ []) h f = ap (λ w. if k == w then e ∷ [] else []) (f e refl)
of_size-one t j k (e ∷ d ∷ es) h f = absurd (omega (arith, h))

pub share-append : (t k : ℕ) (xs ys : List ℕ) → share t k (xs ++ ys) ≡ share t k xs + share t k ys
share-append t k [] ys = omega arith
share-append t k (x ∷ xs) ys = let r = share-append t k xs ys in omega (arith, r)

pub share-here : (t k : ℕ) (ls : List ℕ) → length ls ≤ 1 → ((l : ℕ) → ls ≡ l ∷ [] → size_worker t l ≡ k) → share t k ls ≡ length ls
share-here t k [] h f = refl
share-here t k (l ∷ []) h f = elim (eqb_tells k (size_worker t l)) [ inl i ↦ rw i.0 refl | inr i ↦ absurd (i.1 (sym (f l refl))) ]
share-here t k (l ∷ n ∷ ls) h f = absurd (omega (arith, h))

pub share-else : (t j k : ℕ) (ls : List ℕ) → length ls ≤ 1 → ((l : ℕ) → ls ≡ l ∷ [] → size_worker t l ≡ j) → k ≢ j → share t k ls ≡ 0
share-else t j k [] h f n = refl
share-else t j k (l ∷ []) h f n = elim (eqb_tells k (size_worker t l)) [ inl i ↦ absurd (n (i.1 ∙ f l refl)) | inr i ↦ rw i.0 refl ]
share-else t j k (l ∷ m ∷ ls) h f n = absurd (omega (arith, h))

two_step : (b : Bool) → (if b then 1 else 0) < 2
two_step true = omega arith
two_step false = omega arith

pub size_below : (t l : ℕ) → size_worker t l < 2
size_below t l = two_step (nat_lt l t)

-- an operation's part is one worker's
pub total_one : (j : ℕ) (e : LogEntry) → j < 2 → (t : ℕ) → size_worker t e.data_len ≡ j → total 2 (λ k. length (of_size t k (e ∷ []))) ≡ 1
total_one zero e h t s = rw s refl
total_one (suc zero) e h t s = rw s refl
total_one (suc (suc j)) e h t s = absurd (omega (arith, h))

pub total_sizes : (t : ℕ) (es : List LogEntry) → total 2 (λ k. length (of_size t k es)) ≡ length es
total_sizes t [] = refl
total_sizes t (e ∷ es) =
    let r = total_sizes t es in
    let o = total_one (size_worker t e.data_len) e (size_below t e.data_len) t refl in
    let a = ap length (of_size-append t 0 (e ∷ []) es) in
    let b = ap length (of_size-append t 1 (e ∷ []) es) in
    omega (arith, r, o, a, b, length-append (of_size t 0 (e ∷ [])) (of_size t 0 es), length-append (of_size t 1 (e ∷ [])) (of_size t 1 es))

head_is : (a b : LogEntry) → a ∷ [] ≡ b ∷ [] → a ≡ b
head_is a b e = cc

first_of : {C : Type 0} (n : ℕ) (o : Option Places) (ops : List (Op C)) (op : Op C) → n ≤ 1 → 0 < length ops → op ≡ get_or ops 0 op → (e : LogEntry) → told o (map log_entry (take n ops)) ≡ e ∷ [] → e.data_len ≡ data_len_of op.spec
first_of n o [] op h l g e f = absurd (omega (arith, l))
first_of zero None (x ∷ ops) op h l g e f = absurd (omega (arith, ap length f))
first_of zero (Some p) (x ∷ ops) op h l g e f = absurd (omega (arith, ap length f))
first_of (suc zero) None (x ∷ ops) op h l g e f = ap (λ (d : LogEntry). d.data_len) (sym (head_is _ e f)) ∙ ap (λ (y : Op _). data_len_of y.spec) (sym g)
first_of (suc zero) (Some p) (x ∷ ops) op h l g e f = ap (λ (d : LogEntry). d.data_len) (sym (head_is _ e f)) ∙ ap (λ (y : Op _). data_len_of y.spec) (sym g)
first_of (suc (suc n)) o (x ∷ ops) op h l g e f = absurd (omega (arith, h))

-- the first operation of a burst, where at most one is taken
pub first_entry : {C : Type 0} (n : ℕ) (o : Option Places) (b : Burst (Op C)) (op : Op C) → n ≤ 1 → 0 < length b.ops → op ≡ get_or b.ops 0 op → (e : LogEntry) → told o (front_log n b) ≡ e ∷ [] → e.data_len ≡ data_len_of op.spec
first_entry n o b op h l g e f = first_of n o b.ops op h l g e f

length_of : {C : Type 0} (n : ℕ) (ops : List (Op C)) (op : Op C) → n ≤ 1 → 0 < length ops → op ≡ get_or ops 0 op → (l : ℕ) → map (λ (o : Op C). data_len_of o.spec) (take n ops) ≡ l ∷ [] → l ≡ data_len_of op.spec
length_of n [] op h s g l f = absurd (omega (arith, s))
length_of zero (x ∷ ops) op h s g l f = absurd (omega (arith, ap length f))
length_of (suc zero) (x ∷ ops) op h s g l f = let is : data_len_of x.spec ≡ l = cc in sym is ∙ ap (λ (y : Op _). data_len_of y.spec) (sym g)
length_of (suc (suc n)) (x ∷ ops) op h s g l f = absurd (omega (arith, h))

pub first_length : {C : Type 0} (n : ℕ) (b : Burst (Op C)) (op : Op C) → n ≤ 1 → 0 < length b.ops → op ≡ get_or b.ops 0 op → (l : ℕ) → lens n b ≡ l ∷ [] → l ≡ data_len_of op.spec
first_length n b op h s g l f = length_of n b.ops op h s g l f
