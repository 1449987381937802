-- What a line without a fault says.
use Rattle.std.proofs.Common.{◌≡◌, ◌∙◌, ◌<◌, ◌||◌, ℕ, Bool, List, [], ◌∷◌, length, zero, suc, true, false, true≢false, not, sym, ap, refl, arith, subst, Option, Some, None, map, cond}
use Rattle.std.specs.Prelude.{is_none, unwrap_or, nat_le, nat_lt, option_map, if◌then◌else◌}
use Rattle.std.specs.List.{list_all, list_any, find, position, slice_get}
use Rattle.std.proofs.lemmas.List.Folds.{find_at}
use Rattle.std.proofs.lemmas.Slice.Eq.{bytes_eq-Decides}
use Rattle.session_file.specs.declared.plan.Choice.{Choice}
use Rattle.session_file.specs.declared.plan.Choice.TheVariants.{Pass, Use}
use Rattle.session_file.specs.declared.plan.Named.{Named}
use Rattle.session_file.specs.declared.plan.Rule.{Rule}
use Rattle.session_file.specs.Value.{Word, hex_bytes, is_hex, is_name, is_number, number}
use Rattle.session_file.specs.Form.{PartWords, SessionWords, RuleWords, TargetWords, PassWord, UseWords}
use Rattle.session_file.specs.Fault.{choice_of, faults_of, first_that_holds, has_good_salt, has_good_skip, has_name, makes_session, xform_of, target_numbers}
use Rattle.session_file.proofs.Choices.{place_of}
use Rattle.crypto_model.proofs.Both.{both}
use Rattle.session_file.proofs.Normal.{AreBytes-hex, small_number}
use Rattle.session_file.proofs.SessionLines.{IsSession, above}
use Rattle.session_file.proofs.RuleLines.{IsChoice, IsRule, Names}
use Rattle.session_file.proofs.Again.{is_named}

-- ---- the choice of a line

found_step : {X : Type 0} (p q : X → Bool) (b : Bool) (y x : X) (o : Option X) → p y ≡ b → q y ≡ true → (o ≡ Some x → (p x ≡ true) × (q x ≡ true))
    → cond b (Some y) o ≡ Some x → (p x ≡ true) × (q x ≡ true)
found_step p q true y x o test own rest e = let same : y ≡ x = cc in (ap p (sym same) ∙ test, ap q (sym same) ∙ own)
found_step p q false y x o test own rest e = rest e

-- the first element that passes a test, where each passes another
found_is : {X : Type 0} (p q : X → Bool) (xs : List X) (x : X) → list_all q xs ≡ true → find p xs ≡ Some x → (p x ≡ true) × (q x ≡ true)
found_is p q [] x all e = cc
found_is p q (y ∷ ys) x all e = found_step p q (p y) y x (find p ys) refl (both _ _ all).0 (found_is p q ys x (both _ _ all).1) e

within : {X : Type 0} (xs : List X) (i : ℕ) → i < length xs → (x : X) × (slice_get xs i ≡ Some x)
within [] i lt = absurd (omega arith)
within (x ∷ xs) zero lt = (x, refl)
within (x ∷ xs) (suc i) lt = within xs i (omega arith)

same_name : (name : Word) (s : Named) → has_name name s ≡ true → s.name ≡ name
same_name name s e = (bytes_eq-Decides s.name name).0 e

named : (ss : List Named) (name skip : Word) (i : ℕ) → list_all is_named ss ≡ true → is_number skip ≡ true → position (has_name name) ss ≡ Some i
    → has_good_skip ss (UseWords name skip) ≡ true → Names ss i (number skip)
named ss name skip i names digits at skips =
    let place = place_of (has_name name) ss i at in
    let got = within ss i place.1 in
    let found : find (has_name name) ss ≡ Some got.0 = find_at (has_name name) ss ∙ (ap (slice_get ss) place.0 ∙ got.1) in
    let is = found_is (has_name name) is_named ss got.0 names found in
    let same : got.0.name ≡ name = same_name name got.0 is.0 in
    record {
      name = name;
      s = got.0;
      named = ap is_name (sym same) ∙ is.1;
      at = at;
      found = found;
      got = got.1;
      same = same;
      fits = rw found at skips;
      small = small_number skip digits;
    }

chosen_use : (ss : List Named) (name skip : Word) (c : Choice) (o : Option ℕ) → list_all is_named ss ≡ true → is_number skip ≡ true → position (has_name name) ss ≡ o
    → has_good_skip ss (UseWords name skip) ≡ true → option_map (λ i. Use (record { 0 = i }) (number skip)) o ≡ Some c → IsChoice ss c
chosen_use ss name skip c None names digits at skips e = cc
chosen_use ss name skip c (Some i) names digits at skips e =
    let same : Use (record { 0 = i }) (number skip) ≡ c = cc in
    subst (IsChoice ss) same (named ss name skip i names digits at skips)

pub chosen : (ss : List Named) (t : TargetWords) (c : Choice) → list_all is_named ss ≡ true → list_all is_number (target_numbers t) ≡ true
    → has_good_skip ss t ≡ true → choice_of ss t ≡ Some c → IsChoice ss c
chosen ss PassWord c names numbers skips e = let same : Pass ≡ c = cc in subst (IsChoice ss) same tt
chosen ss (UseWords name skip) c names numbers skips e =
    chosen_use ss name skip c (position (has_name name) ss) names (both _ _ numbers).0 refl skips e

pub some_of : (o : Option Choice) → is_none o ≡ false → (c : Choice) × (o ≡ Some c)
some_of None e = absurd (true≢false e)
some_of (Some c) e = (c, refl)

-- ---- a line without a fault

pub none_holds : (b : Bool) (k : ℕ) (rest : Option ℕ) → (if b then Some k else rest) ≡ None → (b ≡ false) × (rest ≡ None)
none_holds true k rest e = cc
none_holds false k rest e = (refl, e)

pub not_false : (b : Bool) → not b ≡ false → b ≡ true
not_false true e = refl
not_false false e = sym e

pub neither : (a b : Bool) → (a || b) ≡ false → (a ≡ false) × (b ≡ false)
neither true b e = absurd (true≢false e)
neither false b e = (refl, e)

pub session_faultless : (ss : List Named) (rs : List Rule) (name : Word) (parts : List PartWords)
    → first_that_holds (faults_of (above ss rs) (SessionWords name parts)) ≡ None → IsSession ss name parts
session_faultless ss rs name parts e =
    let numbers = none_holds _ 3 _ e in
    let hexes = none_holds _ 4 _ numbers.1 in
    let named = none_holds _ 5 _ hexes.1 in
    let made = none_holds _ 7 _ named.1 in
    let few = none_holds _ 9 _ made.1 in
    let name_own = neither (not (is_name name)) (list_any (has_name name) ss) named.0 in
    let salted_made = both (list_all has_good_salt parts) (makes_session (map xform_of parts)) (not_false _ made.0) in
    record {
      numbers = not_false _ numbers.0;
      hexes = not_false _ hexes.0;
      named = not_false _ name_own.0;
      own = name_own.1;
      salted = salted_made.0;
      made = salted_made.1;
      few = few.0;
    }

-- what a rule line adds
abbrev pub rule_of : List Named → Word → Word → TargetWords → Rule
rule_of ss offset bytes t = record { offset = number offset; bytes = hex_bytes bytes; choice = unwrap_or (choice_of ss t) Pass }

pub rule_faultless : (ss : List Named) (rs : List Rule) (offset bytes : Word) (t : TargetWords) → list_all is_named ss ≡ true
    → first_that_holds (faults_of (above ss rs) (RuleWords offset bytes t)) ≡ None → IsRule ss (rule_of ss offset bytes t) × (nat_le 1024 (length rs) ≡ false)
rule_faultless ss rs offset bytes t names e =
    let numbers = none_holds _ 3 _ e in
    let hex = none_holds _ 4 _ numbers.1 in
    let chose = none_holds _ 6 _ hex.1 in
    let skips = none_holds _ 8 _ chose.1 in
    let limits = none_holds _ 9 _ skips.1 in
    let digits = both (is_number offset) (list_all is_number (target_numbers t)) (not_false _ numbers.0) in
    let c = some_of (choice_of ss t) chose.0 in
    let is_hex_bytes : is_hex bytes ≡ true = not_false _ hex.0 in
    let choice : IsChoice ss (unwrap_or (choice_of ss t) Pass) =
    subst (λ (o : Option Choice). IsChoice ss (unwrap_or o Pass)) (sym c.1) (chosen ss t c.0 names digits.1 (not_false _ skips.0) c.1) in
    let few = neither (nat_le 1024 (length rs)) (nat_lt 64 (length (hex_bytes bytes))) limits.0 in
    (record { offset = small_number offset digits.0; bytes = AreBytes-hex bytes is_hex_bytes; short = few.1; choice = choice }, few.0)
