-- The last of new hands is a hand of the last worker, and the others are new.
use Rattle.std.proofs.Common.{◌≡◌, ◌∙◌, ℕ, zero, suc, List, [], ◌∷◌, ◌++◌, length, refl, sym, subst, ap, arith, length-append}
use Rattle.atomic_table.specs.Seated.{TableId}
use Rattle.crypto_model.specs.Process.{Transform}
use Rattle.flight_table.specs.Call.{Desk, desk, hands_of}
use Rattle.flight_table.specs.Note.{BookData}
use Rattle.flight_table.specs.View.{new_hand}
use Rattle.sched_multicore.specs.Carry.{IsFree, IsHandOf}
use Rattle.multicore_bench.specs.Hands.{AreNew}

length-hands : (t : TableId) (slots : ℕ) (b : BookData) (n : ℕ) → length (hands_of t slots b n) ≡ n
length-hands t slots b zero = refl
length-hands t slots b (suc n) = omega (arith, length-append (hands_of t slots b n) (desk t slots (new_hand b n) ∷ []), length-hands t slots b n)

-- the hands that a queue pair is opened with
pub new_hands : (t : TableId) (slots : ℕ) (b : BookData) (n : ℕ) (sessions : List (List Transform)) (hands : List Desk) → b.sessions ≡ sessions → hands ≡ hands_of t slots b n
    → (length hands ≡ n) × AreNew slots sessions hands
new_hands t slots b n sessions hands under is =
    let len : length hands ≡ n = ap length is ∙ length-hands t slots b n in
    (len, record { table = t; book = b; under = under; hands_are = is ∙ ap (hands_of t slots b) (sym len) })

same_last : {A : Type 0} (xs ys : List A) (x y : A) → xs ++ x ∷ [] ≡ ys ++ y ∷ [] → (xs ≡ ys) × (x ≡ y)
same_last [] [] x y e = (refl, cc)
same_last [] (z ∷ zs) x y e = absurd (omega (arith, simp length-append at (ap length e)))
same_last (w ∷ ws) [] x y e = absurd (omega (arith, simp length-append at (ap length e)))
same_last (w ∷ ws) (z ∷ zs) x y e =
    let first : w ≡ z = cc in
    let behind : ws ++ x ∷ [] ≡ zs ++ y ∷ [] = cc in
    let r = same_last ws zs x y behind in
    let rest : ws ≡ zs = r.0 in (cc, r.1)

pub last_hand : (slots : ℕ) (sessions : List (List Transform)) (xs : List Desk) (h : Desk) → AreNew slots sessions (xs ++ h ∷ [])
    → AreNew slots sessions xs × IsHandOf (length xs) slots sessions h × IsFree slots h
last_hand slots sessions xs h new =
    let t = new.table in let b = new.book in
    let len : length (xs ++ h ∷ []) ≡ suc (length xs) = simp length-append (omega arith) in
    let is : xs ++ h ∷ [] ≡ hands_of t slots b (length xs) ++ desk t slots (new_hand b (length xs)) ∷ [] =
    subst (λ (n : ℕ). xs ++ h ∷ [] ≡ hands_of t slots b n) len new.hands_are in
    let r = same_last xs (hands_of t slots b (length xs)) h (desk t slots (new_hand b (length xs))) is in (
      record { table = t; book = b; under = new.under; hands_are = r.0 },
      subst (IsHandOf (length xs) slots sessions) (sym r.1) (record { worker = refl; slots = refl; sessions = new.under }),
      subst (IsFree slots) (sym r.1) (λ k lt. refl),
    )
