-- What an owner's views before and after a call have in common, and the words that it found.
use Rattle.std.proofs.Common.{◌≡◌, ◌≢◌, ℕ, ◌⊎◌, inl, inr, List, [], ◌∷◌, ◌++◌, refl, ap, ◌∙◌, subst, Option, Some}
use Rattle.std.specs.Prelude.{Result, Ok, Err, IfOk, IfErr}
use Rattle.std.proofs.lemmas.List.{append_assoc}
use Rattle.flight_table.specs.declared.rule.FlightView.{FlightView}
use Rattle.flight_table.specs.declared.rule.Sent.{Sent}
use Rattle.flight_table.specs.declared.word.Phase.{Phase}
use Rattle.flight_table.specs.declared.word.Phase.TheVariants.{Free, Held, Ready, Taken, Done, Back}
use Rattle.flight_table.specs.declared.word.Word.{Word}
use Rattle.flight_table.specs.Word.{word}
use Rattle.flight_table.specs.View.{look}
use Rattle.flight_table.specs.Call.{IsOut, ShownAs, Shown, FoundOpen, FoundBusy}
use Rattle.sched_multicore.specs.Step.{IsAwaited, IsBusy, IsNotBack, IsIdle, IsBack}

-- the owner looked, and nothing else changed
abbrev pub AsBefore : FlightView → FlightView → Type 0
AsBefore v w = (w.about ≡ v.about) × (w.given ≡ v.given) × (w.collected ≡ v.collected) × (w.made ≡ v.made)

-- the last word that it found, of which a fact is known
abbrev pub FoundLast : (Phase → Type 0) → FlightView → FlightView → ℕ → Type 0
FoundLast P v w k = (n : Word) × P n.phase × (mid : List (ℕ × Word)) × (w.looks ≡ v.looks ++ (mid ++ (k, n) ∷ []))

-- a recall that succeeded
pub open_as : (v w : FlightView) (k : ℕ) (s : Sent) → FoundOpen v k s w → AsBefore v w × FoundLast IsIdle v w k
open_as v w k s (inl a) = ((ap (λ u. u.about) a, ap (λ u. u.given) a, ap (λ u. u.collected) a, ap (λ u. u.made) a), (word Ready s.number s.worker, tt, [], ap (λ u. u.looks) a))
open_as v w k s (inr (inl a)) = ((ap (λ u. u.about) a, ap (λ u. u.given) a, ap (λ u. u.collected) a, ap (λ u. u.made) a), (word Back s.number s.worker, tt, [], ap (λ u. u.looks) a))
open_as v w k s (inr (inr a)) = (
  (ap (λ u. u.about) a, ap (λ u. u.given) a, ap (λ u. u.collected) a, ap (λ u. u.made) a),
  (
    word Back s.number s.worker,
    tt,
    (k, word Ready s.number s.worker) ∷ [],
    ap (λ u. u.looks) a ∙ append_assoc v.looks ((k, word Ready s.number s.worker) ∷ []) ((k, word Back s.number s.worker) ∷ []),
  ),
)

-- a recall that failed
pub busy_as : (v w : FlightView) (k : ℕ) (n : Word) → FoundBusy v k n w → AsBefore v w × ((mid : List (ℕ × Word)) × (w.looks ≡ v.looks ++ (mid ++ (k, n) ∷ [])))
busy_as v w k n (inl a) = ((ap (λ u. u.about) a, ap (λ u. u.given) a, ap (λ u. u.collected) a, ap (λ u. u.made) a), ([], ap (λ u. u.looks) a))
busy_as v w k n (inr a) = (
  (ap (λ u. u.about) a.2, ap (λ u. u.given) a.2, ap (λ u. u.collected) a.2, ap (λ u. u.made) a.2),
  ((k, word Ready a.0.number a.0.worker) ∷ [], ap (λ u. u.looks) a.2 ∙ append_assoc v.looks ((k, word Ready a.0.number a.0.worker) ∷ []) ((k, n) ∷ [])),
)

-- Phases

pub is_out : (v : FlightView) (k : ℕ) (s : Sent) (n : Word) → look v.given k ≡ Some s → Shown v k n → IsOut n.phase
is_out v k s n given shown = (subst (λ (z : Option Sent). ShownAs z n) given shown).0

pub awaited : (p : Phase) → IsOut p → p ≢ Done → IsAwaited p
awaited Free out ne = out
awaited Held out ne = out
awaited Ready out ne = tt
awaited Taken out ne = tt
awaited Done out ne = ne refl
awaited Back out ne = tt

pub busy : (p : Phase) → IsOut p → p ≢ Ready → p ≢ Back → IsBusy p
busy Free out a b = out
busy Held out a b = out
busy Ready out a b = a refl
busy Taken out a b = tt
busy Done out a b = tt
busy Back out a b = b refl

pub back_or : (p : Phase) → IsOut p → IsBack p ⊎ IsNotBack p
back_or Free out = absurd out
back_or Held out = absurd out
back_or Ready out = inr tt
back_or Taken out = inr tt
back_or Done out = inr tt
back_or Back out = inl refl

pub busy_not_back : (p : Phase) → IsBusy p → IsNotBack p
busy_not_back Free h = h
busy_not_back Held h = h
busy_not_back Ready h = tt
busy_not_back Taken h = tt
busy_not_back Done h = tt
busy_not_back Back h = h

pub not_back : (p : Phase) → IsBack p ⊎ IsNotBack p → p ≢ Back → IsNotBack p
not_back p (inl e) ne = absurd (ne e)
not_back p (inr h) ne = h

pub err_map : {A E : Type 0} (r : Result A E) (P Q : E → Type 0) → IfErr r P → ((e : E) → P e → Q e) → IfErr r Q
err_map (Ok a) P Q h f = tt
err_map (Err e) P Q h f = f e h

pub ok_map : {A E : Type 0} (r : Result A E) (P Q : A → Type 0) → IfOk r P → ((a : A) → P a → Q a) → IfOk r Q
ok_map (Ok a) P Q h f = f a h
ok_map (Err e) P Q h f = tt
