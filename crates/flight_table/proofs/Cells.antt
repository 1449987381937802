-- The words of slots.
use Rattle.std.proofs.Common.{◌≡◌, ◌≢◌, ℕ, zero, suc, ◌+◌, ◌*◌, ◌/◌, ◌%◌, ◌<◌, inr, if◌then◌else◌, eq-eqb, ne_eqb, refl, sym, ap, ◌∙◌, subst, arith, Some, None}
use native.Mathlib.Decide.{ℕ_discrete}
use Rattle.flight_table.specs.declared.word.Phase.{Phase}
use Rattle.flight_table.specs.declared.word.Phase.TheVariants.{Free, Held, Ready, Taken, Done, Back}
use Rattle.flight_table.specs.declared.word.Word.{Word}
use Rattle.flight_table.specs.declared.rule.FlightView.{FlightView}
use Rattle.flight_table.specs.Note.{BookData}
use Rattle.flight_table.specs.Word.{word, code, phase_of, packed, unpacked}
use Rattle.flight_table.specs.Rule.{Home, Cell, held, ready, taken, done, back, word_of, due, listing, IsOwners, Lies, is_done, dones}
use Rattle.flight_table.specs.Call.{ShownAs, IsPacked}
use Rattle.flight_table.proofs.Puts.{put, put_here, put_else, none_some, some_same}

-- a packed word is read back
pub reads : (w : Word) → w.worker < 8 → unpacked (packed w) ≡ w
reads w few = λ i. word (phase i) (number i) (worker i)
  where
    low : packed w % 8 ≡ code w.phase
    low = go w.phase
      where
        go : (p : Phase) → (w.number * 64 + w.worker * 8 + code p) % 8 ≡ code p
        go Free = omega arith
        go Held = omega arith
        go Ready = omega arith
        go Taken = omega arith
        go Done = omega arith
        go Back = omega arith

    small : code w.phase < 6
    small = go w.phase
      where
        go : (p : Phase) → code p < 6
        go Free = omega arith
        go Held = omega arith
        go Ready = omega arith
        go Taken = omega arith
        go Done = omega arith
        go Back = omega arith

    same : (p : Phase) → phase_of (code p) ≡ p
    same Free = refl
    same Held = refl
    same Ready = refl
    same Taken = refl
    same Done = refl
    same Back = refl

    phase : phase_of (packed w % 8) ≡ w.phase
    phase = ap phase_of low ∙ same w.phase

    number : packed w / 64 ≡ w.number
    number = let s = small in omega (arith, s, few)

    worker : packed w / 8 % 8 ≡ w.worker
    worker = let s = small in omega (arith, s, few)

-- what a slot's word says
pub says : (c : Cell) (n : ℕ) → n ≡ packed (word_of c) → (word_of c).worker < 8 → unpacked n ≡ word_of c
says c n e few = ap unpacked e ∙ reads (word_of c) few

pub is_packed : (c : Cell) (n : ℕ) → n ≡ packed (word_of c) → (word_of c).worker < 8 → IsPacked n
is_packed c n e few = e ∙ ap packed (sym (says c n e few))

pub is_ready : (c : Cell) (p w : ℕ) → word_of c ≡ word Ready p w → c ≡ ready p w
is_ready held p w e = absurd (let x = ap (λ z. code z.phase) e in omega (arith, x))
is_ready (ready q v) p w e = λ i. ready (e i).number (e i).worker
is_ready (taken q v) p w e = absurd (let x = ap (λ z. code z.phase) e in omega (arith, x))
is_ready (done q v) p w e = absurd (let x = ap (λ z. code z.phase) e in omega (arith, x))
is_ready (back q v) p w e = absurd (let x = ap (λ z. code z.phase) e in omega (arith, x))

pub is_held : (c : Cell) → due c ≡ None → c ≡ held
is_held held e = refl
is_held (ready q v) e = absurd (none_some _ (sym e))
is_held (taken q v) e = absurd (none_some _ (sym e))
is_held (done q v) e = absurd (none_some _ (sym e))
is_held (back q v) e = absurd (none_some _ (sym e))

pub is_held_word : (c : Cell) → (word_of c).phase ≡ Held → c ≡ held
is_held_word held e = refl
is_held_word (ready q v) e = absurd (let x = ap code e in omega (arith, x))
is_held_word (taken q v) e = absurd (let x = ap code e in omega (arith, x))
is_held_word (done q v) e = absurd (let x = ap code e in omega (arith, x))
is_held_word (back q v) e = absurd (let x = ap code e in omega (arith, x))

pub is_done_word : (c : Cell) → (word_of c).phase ≡ Done → c ≡ done (word_of c).number (word_of c).worker
is_done_word held e = absurd (let x = ap code e in omega (arith, x))
is_done_word (ready q v) e = absurd (let x = ap code e in omega (arith, x))
is_done_word (taken q v) e = absurd (let x = ap code e in omega (arith, x))
is_done_word (done q v) e = refl
is_done_word (back q v) e = absurd (let x = ap code e in omega (arith, x))

pub is_back_word : (c : Cell) → (word_of c).phase ≡ Back → c ≡ back (word_of c).number (word_of c).worker
is_back_word held e = absurd (let x = ap code e in omega (arith, x))
is_back_word (ready q v) e = absurd (let x = ap code e in omega (arith, x))
is_back_word (taken q v) e = absurd (let x = ap code e in omega (arith, x))
is_back_word (done q v) e = absurd (let x = ap code e in omega (arith, x))
is_back_word (back q v) e = refl

-- whether a word has a phase
pub phase_same : (a b : Phase) → Dec (a ≡ b)
phase_same a b = go (ℕ_discrete (code a) (code b))
  where
    same : (p : Phase) → phase_of (code p) ≡ p
    same Free = refl
    same Held = refl
    same Ready = refl
    same Taken = refl
    same Done = refl
    same Back = refl

    go : Dec (code a ≡ code b) → Dec (a ≡ b)
    go (yes e) = yes (sym (same a) ∙ ap phase_of e ∙ same b)
    go (no n) = no (λ e. n (ap code e))

-- Listings

pub listing_here : (p w : ℕ) → listing (taken p w) w ≡ Some p
listing_here p w = ap (λ b. if b then Some p else None) (eq-eqb w w refl)

pub listing_else : (p w u : ℕ) → u ≢ w → listing (taken p w) u ≡ None
listing_else p w u ne = ap (λ b. if b then Some p else None) (ne_eqb u w ne)

pub is_taken : (c : Cell) (p w : ℕ) → listing c w ≡ Some p → c ≡ taken p w
is_taken held p w e = absurd (none_some _ e)
is_taken (ready q v) p w e = absurd (none_some _ e)
is_taken (taken q v) p w e = go (ℕ_discrete w v)
  where
    go : Dec (w ≡ v) → taken q v ≡ taken p w
    go (yes h) = let l : listing (taken q v) w ≡ Some q = ap (λ b. if b then Some q else None) (eq-eqb w v h) in let x : q ≡ p = some_same q p (sym l ∙ e) in λ i. taken (x i) (sym h i)
    go (no h) = absurd (none_some p (sym (listing_else q v w h) ∙ e))
is_taken (done q v) p w e = absurd (none_some _ e)
is_taken (back q v) p w e = absurd (none_some _ e)

-- Counts

pub done_here : (p w : ℕ) → is_done w (done p w) ≡ 1
done_here p w = ap (λ b. if b then 1 else 0) (eq-eqb w w refl)

pub done_else : (p w u : ℕ) → u ≢ w → is_done u (done p w) ≡ 0
done_else p w u ne = ap (λ b. if b then 1 else 0) (ne_eqb u w ne)

-- the number of done cells after a change of one cell
pub dones_put : (w : ℕ) (cells : ℕ → Cell) (k : ℕ) (c : Cell) (n : ℕ) → k < n → dones w (put cells k c) n + is_done w (cells k) ≡ dones w cells n + is_done w c
dones_put w cells k c zero lt = absurd (omega arith)
dones_put w cells k c (suc n) lt = go (ℕ_discrete n k) (dones_put w cells k c n)
  where
    below : (m : ℕ) → m < suc k → (m < suc k → dones w (put cells k c) m ≡ dones w cells m)
    below zero a = λ _. refl
    below (suc m) a = λ _. let s : is_done w (put cells k c m) ≡ is_done w (cells m) = ap (is_done w) (put_else cells k m c (λ e. omega arith)) in let t = below m (omega arith) (omega arith) in omega (arith, s, t)

    go : Dec (n ≡ k) → (k < n → dones w (put cells k c) n + is_done w (cells k) ≡ dones w cells n + is_done w c) → dones w (put cells k c) (suc n) + is_done w (cells k) ≡ dones w cells (suc n) + is_done w c
    go (yes e) _ = let h : is_done w (put cells k c n) ≡ is_done w c = subst (λ (m : ℕ). is_done w (put cells k c m) ≡ is_done w c) (sym e) (ap (is_done w) (put_here cells k c)) in let g : is_done w (cells n) ≡ is_done w (cells k) = ap (λ (m : ℕ). is_done w (cells m)) e in let b = below n (omega arith) (omega arith) in omega (arith, h, g, b)
    go (no ne) rec = let h : is_done w (put cells k c n) ≡ is_done w (cells n) = ap (is_done w) (put_else cells k n c ne) in let d = rec (omega arith) in omega (arith, h, d)

pub no_dones : (w : ℕ) (cells : ℕ → Cell) (n : ℕ) → ((k : ℕ) → k < n → cells k ≡ held) → dones w cells n ≡ 0
no_dones w cells zero all = refl
no_dones w cells (suc n) all = let h = no_dones w cells n (λ k lt. all k (omega arith)) in let g : is_done w (cells n) ≡ 0 = ap (is_done w) (all n (omega arith)) in omega (arith, g, h)

-- What the owner sees

pub shown_as : (c : Cell) → ShownAs (due c) (word_of c)
shown_as held = refl
shown_as (ready p w) = (tt, refl)
shown_as (taken p w) = (tt, refl)
shown_as (done p w) = (tt, refl)
shown_as (back p w) = (tt, refl)

pub lies_out : (about : BookData) (k : ℕ) (o : FlightView) (hand : ℕ → FlightView) (home : Home) (c : Cell) → IsOwners c → o.out ≡ Some k → Lies about k o hand home c
lies_out about k o hand home held t e = inr e
lies_out about k o hand home (ready p w) t e = absurd t
lies_out about k o hand home (taken p w) t e = absurd t
lies_out about k o hand home (done p w) t e = inr e
lies_out about k o hand home (back p w) t e = inr e
