-- The values of a command by what the getters read.
use Rattle.std.proofs.Common.{◌≡◌, ◌∙◌, ap, sym, true, false, codes, Option, Some, Err, List, cond, option_map, refl}
use Rattle.std.specs.Borrow.{Bor}
use Rattle.clap.specs.Words.{App, Text, first_value, found_of, matches_of, rows_of}
use Rattle.clap.specs.declared.parser.matches.ArgMatches.{ArgMatches}
use Rattle.clap.proofs.WalkLemmas.{first_value-rows}
use Rattle.command_words.specs.Fault.{NotLegal}
use Rattle.command_words.specs.Options.{takes_words, values_in, values_of, with_both}

same_both : (a b c a' b' c' : Option Text) → a ≡ a' → b ≡ b' → c ≡ c' → with_both a b c ≡ with_both a' b' c'
same_both a b c a' b' c' p q r = rw (p, q, r) refl

pub values_from : (app : App) (words : List Text) (m : ArgMatches) (vdev sessions burst : Option Text)
    → takes_words app words ≡ true → rows_of (found_of m) ≡ matches_of app words
    → vdev ≡ first_value (found_of m) (codes "vdev") → sessions ≡ first_value (found_of m) (codes "sessions")
    → burst ≡ first_value (found_of m) (codes "burst")
    → values_of app words ≡ with_both vdev sessions burst
values_from app words m vdev sessions burst taken rows v s b =
    ap (λ t. cond t (values_in (matches_of app words)) (Err NotLegal)) taken
    ∙ (ap values_in (sym rows)
    ∙ sym (same_both _ _ _ _ _ _ (v ∙ first_value-rows (found_of m) (codes "vdev"))
    (s ∙ first_value-rows (found_of m) (codes "sessions")) (b ∙ first_value-rows (found_of m) (codes "burst"))))

pub no_values : (app : App) (words : List Text) → takes_words app words ≡ false → values_of app words ≡ Err NotLegal
no_values app words refused = ap (λ t. cond t (values_in (matches_of app words)) (Err NotLegal)) refused

-- a getter's answer, whose text is known
pub some_text : (o : Option (Bor Text)) (x : Bor Text) (t : Option Text) → o ≡ Some x → option_map (λ s. s.now) o ≡ t → Some x.now ≡ t
some_text o x t is e = sym (ap (option_map (λ (s : Bor Text). s.now)) is) ∙ e
