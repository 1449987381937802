-- What a parse has of a command's options.
use Rattle.std.proofs.Common.{◌≡◌, ◌<◌, ◌∙◌, ◌&&◌, ap, ap₂, sym, subst, Bool, true, false, true≢false, not, codes, List, [], ◌∷◌, ℕ, zero, suc, inl, inr, refl, arith, length, map, is_some}
use Rattle.std.specs.Str.{bytes_eq}
use Rattle.std.specs.List.{All, list_all, slice_index_or}
use Rattle.std.proofs.lemmas.Bool.{not-true}
use Rattle.std.proofs.lemmas.List.Elements.{All-cons, All-nil}
use Rattle.std.proofs.lemmas.Slice.Eq.{bytes_eq-Decides}
use Rattle.clap.specs.Words.{AddsArg, AddsInTurn, IsParsedFrom, IsPlainArg, Text, args_of, first_value, found_of, groups_of}
use Rattle.clap.specs.declared.builder.command.Command.TheViews.{out-Command as fields_of}
use Rattle.clap.specs.Built.{FitsChain, HasDistinctIds, TakesValue}
use Rattle.clap.specs.declared.builder.arg.Arg.{Arg}
use Rattle.clap.specs.declared.builder.command.Command.{Command}
use Rattle.clap.specs.declared.parser.matches.ArgMatches.{ArgMatches}
use Rattle.clap.proofs.CallerLemmas.{required_in_chain}
use Rattle.crypto_model.proofs.Both.{both}

-- ---- names, by tests that compute

-- not empty, and no option that clap adds
abbrev pub is_own : Text → Bool
is_own n = not (bytes_eq n []) && (not (bytes_eq n (codes "help")) && not (bytes_eq n (codes "version")))

abbrev pub are_distinct : List Text → Bool
are_distinct [] = true
are_distinct (n ∷ ns) = list_all (λ m. not (bytes_eq n m)) ns && are_distinct ns

abbrev pub are_names : List Text → Bool
are_names ns = list_all is_own ns && are_distinct ns

-- ---- options of these names

pub record IsOption (a : Arg) (own : Text) : Type 0 where
  pub plain : IsPlainArg a
  pub local : a.global ≡ false
  pub named : a.id.now ≡ own

abbrev pub AreOptions : List Arg → List Text → Type 0
AreOptions [] [] = Unit {0}
AreOptions (a ∷ rest) (n ∷ ns) = IsOption a n × AreOptions rest ns
AreOptions _ _ = ⊥

is_equal : (x y : Text) → x ≡ y → bytes_eq x y ≡ true
is_equal x y e = (bytes_eq-Decides x y).1 e

unlike : (x y : Text) → not (bytes_eq x y) ≡ true → x ≡ y → ⊥
unlike x y other e = absurd (true≢false (sym (is_equal x y e) ∙ not-true (bytes_eq x y) other))

FitsChain-option : (a : Arg) (n : Text) → IsOption a n → is_own n ≡ true → FitsChain a
FitsChain-option a n is own =
    let some = both (not (bytes_eq n [])) _ own in
    let others = both (not (bytes_eq n (codes "help"))) _ some.1 in (
      is.plain,
      is.local,
      (λ e. unlike n [] some.0 (sym is.named ∙ e)),
      (λ auto. elim auto [
        | inl e ↦ unlike n (codes "help") others.0 (sym is.named ∙ e)
        | inr e ↦ unlike n (codes "version") others.1 (sym is.named ∙ e)
      ]),
    )

All-FitsChain : (xs : List Arg) (ns : List Text) → AreOptions xs ns → list_all is_own ns ≡ true → All FitsChain xs
All-FitsChain [] ns are own = All-nil FitsChain
All-FitsChain (a ∷ rest) [] are own = absurd are
All-FitsChain (a ∷ rest) (n ∷ ns) are own =
    let tests = both (is_own n) (list_all is_own ns) own in
    All-cons FitsChain a rest (FitsChain-option a n are.0 tests.0) (All-FitsChain rest ns are.1 tests.1)

-- ---- no two have one name

ids-options : (xs : List Arg) (ns : List Text) → AreOptions xs ns → map (λ a. a.id.now) xs ≡ ns
ids-options [] [] are = refl
ids-options [] (n ∷ ns) are = absurd are
ids-options (a ∷ rest) [] are = absurd are
ids-options (a ∷ rest) (n ∷ ns) are = ap₂ (λ (m : Text) (ms : List Text). m ∷ ms) are.0.named (ids-options rest ns are.1)

-- this name isn't that of the option at the index
apart : (n : Text) (xs : List Arg) (k : ℕ) (d : Arg) → list_all (λ m. not (bytes_eq n m)) (map (λ a. a.id.now) xs) ≡ true
    → k < length xs → bytes_eq n (slice_index_or xs k d).id.now ≡ true → ⊥
apart n [] k d others lt same = absurd (omega arith)
apart n (x ∷ xs) zero d others lt same = absurd (true≢false (sym same ∙ not-true _ (both _ _ others).0))
apart n (x ∷ xs) (suc k) d others lt same = apart n xs k d (both _ _ others).1 (omega arith) same

swapped : (x y : Text) → bytes_eq x y ≡ true → bytes_eq y x ≡ true
swapped x y same = is_equal y x (sym ((bytes_eq-Decides x y).0 same))

HasDistinctIds-names : (xs : List Arg) → are_distinct (map (λ a. a.id.now) xs) ≡ true → HasDistinctIds xs
HasDistinctIds-names [] distinct j k d e low high same = absurd (omega arith)
HasDistinctIds-names (x ∷ xs) distinct zero zero d e low high same = refl
HasDistinctIds-names (x ∷ xs) distinct zero (suc k) d e low high same =
    absurd (apart x.id.now xs k d (both _ _ distinct).0 (omega arith) same)
HasDistinctIds-names (x ∷ xs) distinct (suc j) zero d e low high same =
    absurd (apart x.id.now xs j e (both _ _ distinct).0 (omega arith) (swapped (slice_index_or xs j e).id.now x.id.now same))
HasDistinctIds-names (x ∷ xs) distinct (suc j) (suc k) d e low high same =
    ap (λ n. suc n) (HasDistinctIds-names xs (both _ _ distinct).1 j k d e (omega arith) (omega arith) same)

-- ---- a parse

name_at : (xs : List Arg) (ns : List Text) (k : ℕ) (d : Arg) → AreOptions xs ns → k < length xs
    → (slice_index_or xs k d).id.now ≡ slice_index_or ns k []
name_at [] ns k d are lt = absurd (omega arith)
name_at (a ∷ rest) [] k d are lt = absurd are
name_at (a ∷ rest) (n ∷ ns) zero d are lt = are.0.named
name_at (a ∷ rest) (n ∷ ns) (suc k) d are lt = name_at rest ns k d are.1 (omega arith)

-- a parse of a new command with these options has each that is required
pub option_given : (start cmd : Command) (xs : List Arg) (ns : List Text) → AddsInTurn AddsArg start xs cmd
    → args_of start ≡ [] → groups_of start ≡ [] → (fields_of start).has_globals ≡ false → (fields_of start).subcommand_negates_reqs ≡ false
    → AreOptions xs ns → are_names ns ≡ true
    → (k : ℕ) (d : Arg) (m : ArgMatches) → k < length xs → TakesValue (slice_index_or xs k d) → IsParsedFrom cmd m
    → is_some (first_value (found_of m) (slice_index_or ns k [])) ≡ true
option_given start cmd xs ns chain args groups globals negates are names k d m lt takes parsed =
    let tests = both (list_all is_own ns) (are_distinct ns) names in
    let distinct = HasDistinctIds-names xs (subst (λ (l : List Text). are_distinct l ≡ true) (sym (ids-options xs ns are)) tests.1) in
    let fit = All-FitsChain xs ns are tests.0 in
    subst (λ (n : Text). is_some (first_value (found_of m) n) ≡ true) (name_at xs ns k d are lt)
    (required_in_chain start cmd xs k d m chain args groups globals negates fit distinct lt takes parsed)
