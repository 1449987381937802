-- The lines of rules and the default, printed and read again.
use Rattle.std.proofs.Common.{◌≡◌, ◌∙◌, ◌<◌, ◌+◌, ◌^◌, ◌++◌, ℕ, zero, suc, Bool, List, [], ◌∷◌, length, true, false, not, sym, ap, refl, arith, subst, Ok, Option, Some, append_assoc, append-nil, codes, length-append, ne_eqb}
use Rattle.std.specs.Prelude.{nat_le, nat_lt, option_map, decimal}
use Rattle.std.specs.List.{flat_map, list_all, find, position, position_or_len, slice_get}
use Rattle.std.specs.Option.{option_map_or}
use Rattle.std.proofs.lemmas.Bool.Decides.{nat_tests}
use Rattle.std.proofs.lemmas.List.Folds.{find-append, prefix_len-append}
use Rattle.hex.specs.Hex.{encode_lower}
use Rattle.session_file.specs.declared.draft.Draft.{Draft}
use Rattle.session_file.specs.declared.plan.Choice.{Choice}
use Rattle.session_file.specs.declared.plan.Choice.TheVariants.{Pass, Use}
use Rattle.session_file.specs.declared.plan.Named.{Named}
use Rattle.session_file.specs.declared.plan.Rule.{Rule}
use Rattle.session_file.specs.Value.{Word, is_name, is_number}
use Rattle.session_file.specs.Form.{RuleWords, DefaultWords, TargetWords, PassWord, UseWords, form_of, target_of}
use Rattle.session_file.specs.Fault.{choice_of, has_good_skip, has_name, takes_skip, target_numbers}
use Rattle.session_file.specs.Plan.{read_form, read_words}
use Rattle.session_file.specs.Spelling.{choice_text, default_text, name_at, rule_text, spaced}
use Rattle.session_file.proofs.Choices.{place_of}
use Rattle.session_file.proofs.Words.{AreWords, IsWord-hex, IsWord-name, IsWord-number, line_of}
use Rattle.session_file.proofs.Normal.{AreBytes, hex_again, is_hex-encode, is_number-decimal, number_again}
use Rattle.session_file.proofs.Leads.{Leads, Leads-line}
use Rattle.session_file.proofs.SessionLines.{above}

-- ---- the session that a choice names

-- the name of session i finds it, and it takes the skip
pub record Names (ss : List Named) (i skip : ℕ) : Type 0 where
  pub name : Word
  pub s : Named
  pub named : is_name name ≡ true
  pub at : position (has_name name) ss ≡ Some i
  pub found : find (has_name name) ss ≡ Some s
  pub got : slice_get ss i ≡ Some s
  pub same : s.name ≡ name
  pub fits : takes_skip skip s.xforms ≡ true
  pub small : skip < 10 ^ 7

position-append : {X : Type 0} (p : X → Bool) (xs ys : List X) (i : ℕ) → position p xs ≡ Some i → position p (xs ++ ys) ≡ Some i
position-append p xs ys i e =
    let place = place_of p xs i e in
    let other : position_or_len p xs ≡ length xs → ⊥ = λ all. omega arith in
    let same : position_or_len p (xs ++ ys) ≡ i = prefix_len-append (λ x. not (p x)) xs ys ∙ rw (ne_eqb (position_or_len p xs) (length xs) other) place.0 in
    let size : length (xs ++ ys) ≡ length xs + length ys = length-append xs ys in
    let test : nat_lt i (length (xs ++ ys)) ≡ true = grind (arith, nat_tests) in
    rw (same, test) refl

slice_get-append : {X : Type 0} (xs ys : List X) (i : ℕ) (x : X) → slice_get xs i ≡ Some x → slice_get (xs ++ ys) i ≡ Some x
slice_get-append [] ys i x e = cc
slice_get-append (y ∷ xs) ys zero x e = e
slice_get-append (y ∷ xs) ys (suc i) x e = slice_get-append xs ys i x e

Names-more : (ss more : List Named) (i skip : ℕ) → Names ss i skip → Names (ss ++ more) i skip
Names-more ss more i skip is = record {
  name = is.name;
  s = is.s;
  named = is.named;
  at = position-append (has_name is.name) ss more i is.at;
  found = find-append (has_name is.name) ss more ∙ rw is.found refl;
  got = slice_get-append ss more i is.s is.got;
  same = is.same;
  fits = is.fits;
  small = is.small;
}

abbrev pub IsChoice : List Named → Choice → Type 0
IsChoice ss Pass = Unit {0}
IsChoice ss (Use id skip) = Names ss id.0 skip

pub IsChoice-more : (ss more : List Named) (c : Choice) → IsChoice ss c → IsChoice (ss ++ more) c
IsChoice-more ss more Pass is = tt
IsChoice-more ss more (Use id skip) is = Names-more ss more id.0 skip is

-- ---- the words of a choice

abbrev target_words : TargetWords → List Word
target_words PassWord = codes "pass" ∷ []
target_words (UseWords name skip) = name ∷ skip ∷ []

-- a choice as it is printed
abbrev printed_target : List Named → Choice → TargetWords
printed_target ss Pass = PassWord
printed_target ss (Use id skip) = UseWords (name_at ss id.0) (decimal skip)

target_again : (t : TargetWords) → target_of (target_words t) ≡ Some t
unfolding target_of
target_again PassWord = refl
target_again (UseWords name skip) = refl

choice_spelled : (ss : List Named) (c : Choice) → choice_text ss c ≡ flat_map spaced (target_words (printed_target ss c))
unfolding choice_text
choice_spelled ss Pass = refl
choice_spelled ss (Use id skip) = simp append-nil

-- the printed words are read as the choice
record IsTarget (ss : List Named) (t : TargetWords) (c : Choice) : Type 0 where
  numbers : list_all is_number (target_numbers t) ≡ true
  chosen : choice_of ss t ≡ Some c
  skips : has_good_skip ss t ≡ true
  words : AreWords (target_words t)

IsTarget-use : (ss : List Named) (i skip : ℕ) → Names ss i skip → IsTarget ss (UseWords (name_at ss i) (decimal skip)) (Use (record { 0 = i }) skip)
IsTarget-use ss i skip is =
    let name : name_at ss i ≡ is.name = ap (λ (o : Option Named). option_map_or (λ (s : Named). s.name) o []) is.got ∙ is.same in
    let again = number_again skip is.small in
    let decimal_skip = is_number-decimal skip is.small in
    let read : IsTarget ss (UseWords is.name (decimal skip)) (Use (record { 0 = i }) skip) = record {
      numbers = rw decimal_skip refl;
      chosen = rw (is.at, again) refl;
      skips = rw (is.found, again) is.fits;
      words = (IsWord-name is.name is.named, (IsWord-number (decimal skip) decimal_skip, tt));
    } in
    subst (λ (n : Word). IsTarget ss (UseWords n (decimal skip)) (Use (record { 0 = i }) skip)) (sym name) read

IsTarget-choice : (ss : List Named) (c : Choice) → IsChoice ss c → IsTarget ss (printed_target ss c) c
IsTarget-choice ss Pass is = record { numbers = refl; chosen = refl; skips = refl; words = (record { some = refl; plain = refl }, tt) }
IsTarget-choice ss (Use id skip) is = IsTarget-use ss id.0 skip is

-- ---- rules

pub record IsRule (ss : List Named) (r : Rule) : Type 0 where
  pub offset : r.offset < 10 ^ 7
  pub bytes : AreBytes r.bytes
  pub short : nat_lt 64 (length r.bytes) ≡ false
  pub choice : IsChoice ss r.choice

pub IsRule-more : (ss more : List Named) (r : Rule) → IsRule ss r → IsRule (ss ++ more) r
IsRule-more ss more r is = record { offset = is.offset; bytes = is.bytes; short = is.short; choice = IsChoice-more ss more r.choice is.choice }

abbrev rule_words : List Named → Rule → List Word
rule_words ss r = decimal r.offset ∷ encode_lower r.bytes ∷ target_words (printed_target ss r.choice)

rule_line : (a b : Word) (ws : List Word) → codes "rule" ++ spaced a ++ spaced b ++ flat_map spaced ws ++ 10 ∷ [] ≡ line_of (codes "rule") (a ∷ b ∷ ws) ++ 10 ∷ []
rule_line a b ws = simp append_assoc

rule_spelled : (ss : List Named) (r : Rule) → rule_text ss r ≡ line_of (codes "rule") (rule_words ss r) ++ 10 ∷ []
unfolding rule_text
rule_spelled ss r =
    ap (λ (x : List ℕ). codes "rule" ++ spaced (decimal r.offset) ++ spaced (encode_lower r.bytes) ++ x ++ 10 ∷ []) (choice_spelled ss r.choice)
    ∙ rule_line (decimal r.offset) (encode_lower r.bytes) (target_words (printed_target ss r.choice))

rule_formed : (a b : Word) (t : TargetWords) → form_of (codes "rule" ∷ a ∷ b ∷ target_words t) ≡ Some (RuleWords a b t)
unfolding form_of
rule_formed a b t = ap (option_map (RuleWords a b)) (target_again t)

rule_read : (ss : List Named) (rs : List Rule) (r : Rule) → IsRule ss r → nat_le 1024 (length rs) ≡ false
    → read_form (above ss rs) (Some (RuleWords (decimal r.offset) (encode_lower r.bytes) (printed_target ss r.choice))) ≡ Ok (above ss (rs ++ r ∷ []))
rule_read ss rs r is few =
    let target = IsTarget-choice ss r.choice is.choice in
    rw (is_number-decimal r.offset is.offset, target.numbers, is_hex-encode r.bytes is.bytes, target.chosen, target.skips, few, hex_again r.bytes is.bytes, is.short, number_again r.offset is.offset) refl

pub rule_again : (ss : List Named) (rs : List Rule) (r : Rule) → IsRule ss r → nat_le 1024 (length rs) ≡ false
    → Leads (above ss rs) (rule_text ss r) (above ss (rs ++ r ∷ []))
unfolding read_words
rule_again ss rs r is few =
    let target = IsTarget-choice ss r.choice is.choice in
    rw (rule_spelled ss r)
    (Leads-line (above ss rs) (above ss (rs ++ r ∷ [])) (codes "rule") (rule_words ss r) (record { some = refl; plain = refl })
    (IsWord-number _ (is_number-decimal r.offset is.offset), (IsWord-hex _ (is_hex-encode r.bytes is.bytes), target.words)) refl
    (ap (read_form (above ss rs)) (rule_formed (decimal r.offset) (encode_lower r.bytes) (printed_target ss r.choice)) ∙ rule_read ss rs r is few))

-- ---- the default

default_formed : (t : TargetWords) → form_of (codes "default" ∷ target_words t) ≡ Some (DefaultWords t)
unfolding form_of
default_formed t = ap (option_map DefaultWords) (target_again t)

-- a draft behind its default line
abbrev pub closed : List Named → List Rule → Choice → Draft
closed ss rs c = record { begun = true; sessions = ss; rules = rs; otherwise = Some c }

default_spelled : (ss : List Named) (c : Choice) → default_text ss c ≡ line_of (codes "default") (target_words (printed_target ss c)) ++ 10 ∷ []
unfolding default_text
default_spelled ss c = ap (λ (x : List ℕ). codes "default" ++ x ++ 10 ∷ []) (choice_spelled ss c)

default_read : (ss : List Named) (rs : List Rule) (c : Choice) → IsChoice ss c
    → read_form (above ss rs) (Some (DefaultWords (printed_target ss c))) ≡ Ok (closed ss rs c)
default_read ss rs c is =
    let target = IsTarget-choice ss c is in
    rw (target.numbers, target.chosen, target.skips) refl

pub default_again : (ss : List Named) (rs : List Rule) (c : Choice) → IsChoice ss c → Leads (above ss rs) (default_text ss c) (closed ss rs c)
unfolding read_words
default_again ss rs c is =
    let target = IsTarget-choice ss c is in
    rw (default_spelled ss c)
    (Leads-line (above ss rs) (closed ss rs c) (codes "default") (target_words (printed_target ss c)) (record { some = refl; plain = refl }) target.words refl
    (ap (read_form (above ss rs)) (default_formed (printed_target ss c)) ∙ default_read ss rs c is))
