-- The session that a name finds.
use Rattle.std.proofs.Common.{◌≡◌, ◌∙◌, ◌<◌, ℕ, List, length, get_or, true, false, sym, ap, refl, arith, Bool, Some, None, cond}
use Rattle.std.specs.List.{position, position_or_len, find, slice_get}
use Rattle.std.proofs.lemmas.List.Folds.{find_at}
use Rattle.std.specs.Prelude.{nat_lt}
use Rattle.std.proofs.lemmas.Bool.Decides.{nat_tests}
use Rattle.std.proofs.lemmas.Option.{slice_get_read}
use Rattle.sym_session.specs.declared.xform.Xform.{Xform}
use Rattle.session_file.specs.declared.plan.Choice.TheVariants.{Use}
use Rattle.session_file.specs.declared.plan.Named.{Named}
use Rattle.session_file.specs.Value.{Word, number}
use Rattle.session_file.specs.Form.{UseWords}
use Rattle.session_file.specs.Fault.{choice_of, has_good_skip, has_name, takes_skip}

some_if : (b : Bool) (k i : ℕ) → cond b (Some k) None ≡ Some i → (b ≡ true) × (k ≡ i)
some_if true k i e = (refl, cc)
some_if false k i e = cc

-- where the first element that passes is
pub place_of : {X : Type 0} (p : X → Bool) (xs : List X) (i : ℕ) → position p xs ≡ Some i → (position_or_len p xs ≡ i) × (i < length xs)
place_of p xs i e =
    let at = some_if (nat_lt (position_or_len p xs) (length xs)) (position_or_len p xs) i e in
    let test : nat_lt (position_or_len p xs) (length xs) ≡ true = at.0 in
    let same : position_or_len p xs ≡ i = at.1 in
    (same, grind (arith, nat_tests))

-- the first element that passes
pub found_at : {X : Type 0} (p : X → Bool) (xs : List X) (i : ℕ) (x : X) → position p xs ≡ Some i → x ≡ get_or xs i x → find p xs ≡ Some x
found_at p xs i x at is =
    let place = place_of p xs i at in
    find_at p xs ∙ (ap (slice_get xs) place.0 ∙ slice_get_read xs (length xs) i x refl place.1 is)

-- what a target says that names session i, which takes the skip or doesn't
pub chosen : (ss : List Named) (name skip : Word) (i n : ℕ) (s : Named) (xforms : List Xform) (takes : Bool) → Some i ≡ position (has_name name) ss
    → s ≡ get_or ss i s → xforms ≡ (get_or ss i s).xforms → n ≡ number skip → takes ≡ takes_skip n xforms
    → (choice_of ss (UseWords name skip) ≡ Some (Use (record { 0 = i }) n)) × (has_good_skip ss (UseWords name skip) ≡ takes)
chosen ss name skip i n s xforms takes at is same value test =
    let own : xforms ≡ s.xforms = same ∙ sym (ap (λ (x : Named). x.xforms) is) in
    (rw (sym at, value) refl, rw (found_at (has_name name) ss i s (sym at) is, sym value, sym own, test) refl)
