-- How slots change one at a time.
use Rattle.std.proofs.Common.{◌≡◌, ◌<◌, ◌+◌, ◌==◌, ℕ, Bool, true, false, zero, suc, List, [], ◌∷◌, ◌++◌, length, map, drop, set, get_or, nat_lt, cond, count_by, inl, inr, true≢false, refl, ap, sym, subst, ◌∙◌, arith}
use Rattle.std.specs.List.{slice_get}
use Rattle.std.specs.Prelude.{Option, Some}
use Rattle.std.proofs.lemmas.Bool.Decides.{eqb_tells}
use Rattle.std.proofs.lemmas.List.Sums.{sum_by-cons}
use Rattle.session_file.specs.declared.plan.Plan.{Plan}
use Rattle.packet_plan.specs.declared.written.Kept.{Kept}
use Rattle.packet_plan.specs.Answered.{Answered, answered}
use Rattle.packet_plan.specs.Work.{kept_rec}
use Rattle.capture_io.specs.Capture.{Rec}
use Rattle.packet_flow.specs.Seats.{Seat, Open, Ready, number_of}
use Rattle.packet_flow.specs.Numbered.{Numbered, RisesFrom, numbers_of}
use Rattle.packet_flow.specs.Slots.{SeatSays, SeatsSay, open_numbers}

abbrev pub one : Bool → ℕ
one b = cond b 1 0

pub count-cons : {X : Type 0} (p : X → Bool) (x : X) (xs : List X) → count_by p (x ∷ xs) ≡ one (p x) + count_by p xs
count-cons p x xs = sum_by-cons (λ y. cond (p y) 1 0) x xs

-- how often a number waits
abbrev pub times : ℕ → List ℕ → ℕ
times m ns = count_by (λ n. n == m) ns

pub length-SeatsSay : (plan : Plan) (ss : List Seat) (ps : List Numbered) → SeatsSay plan ss ps → length ss ≡ length ps
unfolding SeatsSay
length-SeatsSay plan [] [] say = refl
length-SeatsSay plan [] (p ∷ ps) say = absurd say
length-SeatsSay plan (s ∷ ss) [] say = absurd say
length-SeatsSay plan (s ∷ ss) (p ∷ ps) say = omega (arith, length-SeatsSay plan ss ps say.1)

same_number : (plan : Plan) (s : Seat) (p : Numbered) → SeatSays plan s p → number_of s ≡ p.number
same_number plan (Open n kept) p say = say.0
same_number plan (Ready n w o) p say = say.0

pub same_numbers : (plan : Plan) (ss : List Seat) (ps : List Numbered) → SeatsSay plan ss ps → map number_of ss ≡ numbers_of ps
unfolding SeatsSay
same_numbers plan [] [] say = refl
same_numbers plan [] (p ∷ ps) say = absurd say
same_numbers plan (s ∷ ss) [] say = absurd say
same_numbers plan (s ∷ ss) (p ∷ ps) say =
    ap (λ (n : ℕ). n ∷ map number_of ss) (same_number plan s p say.0) ∙ ap (λ (l : List ℕ). p.number ∷ l) (same_numbers plan ss ps say.1)

pub SeatsSay-push : (plan : Plan) (ss : List Seat) (ps : List Numbered) (s : Seat) (p : Numbered) → SeatsSay plan ss ps → SeatSays plan s p → SeatsSay plan (ss ++ s ∷ []) (ps ++ p ∷ [])
unfolding SeatsSay
SeatsSay-push plan [] [] s p say new = (new, tt)
SeatsSay-push plan [] (p' ∷ ps) s p say new = absurd say
SeatsSay-push plan (s' ∷ ss) [] s p say new = absurd say
SeatsSay-push plan (s' ∷ ss) (p' ∷ ps) s p say new = (say.0, SeatsSay-push plan ss ps s p say.1 new)

pub open_numbers-ready : (ss : List Seat) (n : ℕ) (w : Answered) (o : Option Bool) → open_numbers (ss ++ Ready n w o ∷ []) ≡ open_numbers ss
unfolding open_numbers
open_numbers-ready [] n w o = refl
open_numbers-ready (Open m kept ∷ ss) n w o = ap (λ (l : List ℕ). m ∷ l) (open_numbers-ready ss n w o)
open_numbers-ready (Ready m w' o' ∷ ss) n w o = open_numbers-ready ss n w o

pub open_numbers-open : (ss : List Seat) (n : ℕ) (kept : Kept) → open_numbers (ss ++ Open n kept ∷ []) ≡ open_numbers ss ++ n ∷ []
unfolding open_numbers
open_numbers-open [] n kept = refl
open_numbers-open (Open m k ∷ ss) n kept = ap (λ (l : List ℕ). m ∷ l) (open_numbers-open ss n kept)
open_numbers-open (Ready m w o ∷ ss) n kept = open_numbers-open ss n kept

told_same : (n m : ℕ) → (n == m) ≡ true → n ≡ m
told_same n m is = elim (eqb_tells n m) [ inl t ↦ t.1 | inr f ↦ absurd (true≢false (sym is ∙ f.0)) ]

pub same_told : (n : ℕ) → (n == n) ≡ true
same_told n = elim (eqb_tells n n) [ inl t ↦ t.0 | inr f ↦ absurd (f.1 refl) ]

pub other_told : (n m : ℕ) → (n ≡ m → ⊥) → one (n == m) ≡ 0
other_told n m other = elim (eqb_tells n m) [ inl t ↦ absurd (other t.1) | inr f ↦ ap one f.0 ]

-- ---- the slot that waits for number m

-- it is slot i, and open
pub record WaitsAt (m : ℕ) (ss : List Seat) : Type 0 where
  pub i : ℕ
  pub inside : i < length ss
  pub kept : Kept
  pub open_is : slice_get ss i ≡ Some (Open m kept)

further : (m : ℕ) (s : Seat) (ss : List Seat) → WaitsAt m ss → WaitsAt m (s ∷ ss)
further m s ss w = record { i = suc w.i; inside = omega (arith, w.inside); kept = w.kept; open_is = w.open_is }

waits_step : (n m : ℕ) (kept : Kept) (ss : List Seat) (b : Bool) → (n == m) ≡ b → 0 < one b + times m (open_numbers ss)
    → (0 < times m (open_numbers ss) → WaitsAt m ss) → WaitsAt m (Open n kept ∷ ss)
waits_step n m kept ss true is some rest =
    record { i = 0; inside = omega arith; kept = kept; open_is = ap (λ (k : ℕ). Some (Open k kept)) (told_same n m is) }
waits_step n m kept ss false is some rest = further m (Open n kept) ss (rest (omega (arith, some)))

pub waits_at : (m : ℕ) (ss : List Seat) → 0 < times m (open_numbers ss) → WaitsAt m ss
unfolding open_numbers
waits_at m [] some = absurd (omega (arith, some))
waits_at m (Open n kept ∷ ss) some =
    waits_step n m kept ss (n == m) refl (subst (λ (k : ℕ). 0 < k) (count-cons (λ (x : ℕ). x == m) n (open_numbers ss)) some) (waits_at m ss)
waits_at m (Ready n w o ∷ ss) some = further m (Ready n w o) ss (waits_at m ss some)

-- no slot waits for a number below theirs
pub none_below : (plan : Plan) (m n : ℕ) (ss : List Seat) (ps : List Numbered) → SeatsSay plan ss ps → RisesFrom n (numbers_of ps) → m < n → times m (open_numbers ss) ≡ 0
unfolding SeatsSay open_numbers
none_below plan m n [] ps say rises below = refl
none_below plan m n (s ∷ ss) [] say rises below = absurd say
none_below plan m n (Open k kept ∷ ss) (p ∷ ps) say rises below =
    let above : m < k = omega (arith, below, rises.0, say.0.0) in
    let rest = none_below plan m (p.number + 1) ss ps say.1 rises.1 (omega (arith, below, rises.0)) in
    omega (arith, count-cons (λ (x : ℕ). x == m) k (open_numbers ss), other_told k m (λ is. omega (arith, above, is)), rest)
none_below plan m n (Ready k w o ∷ ss) (p ∷ ps) say rises below = none_below plan m (p.number + 1) ss ps say.1 rises.1 (omega (arith, below, rises.0))

-- the packet that an open slot waits with
pub packet_at_slot : (plan : Plan) (n i : ℕ) (ss : List Seat) (ps : List Numbered) (kept : Kept) → SeatsSay plan ss ps → slice_get ss i ≡ Some (Open n kept)
    → slice_get ps i ≡ Some (record { number = n; rec = kept_rec kept })
unfolding SeatsSay
packet_at_slot plan n i [] ps kept say is = cc
packet_at_slot plan n i (s ∷ ss) [] kept say is = absurd say
packet_at_slot plan n zero (s ∷ ss) (p ∷ ps) kept say is =
    let same : s ≡ Open n kept = cc in
    let own : SeatSays plan (Open n kept) p = subst (λ (x : Seat). SeatSays plan x p) same say.0 in
    sym (ap (λ (k : ℕ). Some (record { number = k; rec = kept_rec kept })) own.0 ∙ ap (λ (r : Rec). Some (record { number = p.number; rec = r })) own.1)
packet_at_slot plan n (suc i) (s ∷ ss) (p ∷ ps) kept say is = packet_at_slot plan n i ss ps kept say.1 is

pub SeatsSay-settled : (plan : Plan) (n i : ℕ) (ss : List Seat) (ps : List Numbered) (kept : Kept) (w : Answered) (o : Option Bool) → SeatsSay plan ss ps → slice_get ss i ≡ Some (Open n kept)
    → w ≡ answered plan n (kept_rec kept) → SeatsSay plan (set ss i (Ready n w o)) ps
unfolding SeatsSay
SeatsSay-settled plan n i [] ps kept w o say is now = cc
SeatsSay-settled plan n i (s ∷ ss) [] kept w o say is now = absurd say
SeatsSay-settled plan n zero (s ∷ ss) (p ∷ ps) kept w o say is now =
    let same : s ≡ Open n kept = cc in
    let own : SeatSays plan (Open n kept) p = subst (λ (x : Seat). SeatSays plan x p) same say.0 in
    ((own.0, now ∙ ap (λ (k : ℕ). answered plan k (kept_rec kept)) own.0 ∙ ap (answered plan p.number) own.1), say.1)
SeatsSay-settled plan n (suc i) (s ∷ ss) (p ∷ ps) kept w o say is now = (say.0, SeatsSay-settled plan n i ss ps kept w o say.1 is now)

pub times-settled : (m n i : ℕ) (ss : List Seat) (kept : Kept) (w : Answered) (o : Option Bool) → slice_get ss i ≡ Some (Open n kept)
    → times m (open_numbers ss) ≡ one (n == m) + times m (open_numbers (set ss i (Ready n w o)))
unfolding open_numbers
times-settled m n i [] kept w o is = cc
times-settled m n zero (Open k kept' ∷ ss) kept w o is =
    let same : Open k kept' ≡ Open n kept = cc in
    let own : k ≡ n = cc in
    count-cons (λ (x : ℕ). x == m) k (open_numbers ss) ∙ ap (λ (x : ℕ). one (x == m) + times m (open_numbers ss)) own
times-settled m n zero (Ready k w' o' ∷ ss) kept w o is = cc
times-settled m n (suc i) (Open k kept' ∷ ss) kept w o is =
    let before = count-cons (λ (x : ℕ). x == m) k (open_numbers ss) in
    let after = count-cons (λ (x : ℕ). x == m) k (open_numbers (set ss i (Ready n w o))) in
    omega (arith, before, after, times-settled m n i ss kept w o is)
times-settled m n (suc i) (Ready k w' o' ∷ ss) kept w o is = times-settled m n i ss kept w o is

pub front_split : {X : Type 0} (ss : List X) (x : X) → true ≡ nat_lt 0 (length ss) → x ≡ get_or ss 0 x → ss ≡ x ∷ drop 1 ss
front_split [] x some is = absurd (true≢false some)
front_split (s ∷ ss) x some is = ap (λ (y : _). y ∷ ss) (sym is)
