-- The text of a plan that some text says is read as this plan, and the plan is sound.
use Rattle.std.proofs.Common.{◌≡◌, ◌+◌, ◌++◌, ℕ, Bool, List, [], ◌∷◌, true, false, sym, refl, arith, subst, Ok, Err, Result, Option, Some, None}
use Rattle.std.specs.Prelude.{IfOk, if◌then◌else◌}
use Rattle.std.specs.Option.{option_map_or}
use Rattle.std.proofs.lemmas.List.Elements.{All-nil}
use Rattle.session_file.specs.declared.draft.Draft.{Draft}
use Rattle.session_file.specs.declared.plan.Choice.{Choice}
use Rattle.session_file.specs.declared.plan.Named.{Named}
use Rattle.session_file.specs.declared.plan.Plan.{Plan}
use Rattle.session_file.specs.declared.plan.Rule.{Rule}
use Rattle.session_file.specs.declared.refused.ParseRefused.{ParseRefused}
use Rattle.session_file.specs.Text.{lines_of, words_of}
use Rattle.session_file.specs.Value.{Word}
use Rattle.session_file.specs.Form.{LineWords, SessionWords, RuleWords, DefaultWords, form_of}
use Rattle.session_file.specs.Fault.{choice_of, faults_of, first_that_holds}
use Rattle.session_file.specs.Plan.{added, is_header, is_significant, line_then, no_lines, plan_of, read_form, read_from, read_line, read_words}
use Rattle.session_file.specs.Sound.{IsSound, IsSoundSession}
use Rattle.session_file.specs.Spelling.{spelling}
use Rattle.session_file.specs.View.{GivesPlan}
use Rattle.session_file.proofs.Leads.{Leads-none}
use Rattle.session_file.proofs.SessionLines.{above, session_again, session_of}
use Rattle.session_file.proofs.RuleLines.{IsChoice, closed}
use Rattle.session_file.proofs.Again.{Again, Again-rule, Again-session, Said, said}
use Rattle.session_file.proofs.Sound.{session_sound}
use Rattle.session_file.proofs.Faultless.{chosen, none_holds, not_false, rule_faultless, rule_of, session_faultless, some_of}

-- a draft that is read again: open, or closed by its default line
data Next : Draft → Type 0 where
  Open : (ss : List Named) (rs : List Rule) → Again ss rs → Next (above ss rs)
  Shut : (ss : List Named) (rs : List Rule) (c : Choice) → Again ss rs → IsChoice ss c → Next (closed ss rs c)

Next-form : (ss : List Named) (rs : List Rule) → Again ss rs → (form : LineWords) → first_that_holds (faults_of (above ss rs) form) ≡ None → Next (added (above ss rs) form)
Next-form ss rs again (SessionWords name parts) e =
    let is = session_faultless ss rs name parts e in
    Open (ss ++ session_of name parts ∷ []) rs (Again-session ss rs (session_of name parts) again is.named (session_sound ss name parts is) is.few (session_again ss name parts is))
Next-form ss rs again (RuleWords offset bytes t) e =
    let is = rule_faultless ss rs offset bytes t again.names e in
    Open ss (rs ++ rule_of ss offset bytes t ∷ []) (Again-rule ss rs (rule_of ss offset bytes t) again is.0 is.1)
Next-form ss rs again (DefaultWords t) e =
    let numbers = none_holds _ 3 _ e in
    let chose = none_holds _ 6 _ numbers.1 in
    let skips = none_holds _ 8 _ chose.1 in
    let c = some_of (choice_of ss t) chose.0 in
    let choice = chosen ss t c.0 again.names (not_false _ numbers.0) (not_false _ skips.0) c.1 in
    subst (λ (o : Option Choice). Next (record (above ss rs) { otherwise = o })) (sym c.1) (Shut ss rs c.0 again choice)

Next-found : (ss : List Named) (rs : List Rule) → Again ss rs → (form : LineWords) (d : Draft) (o : Option ℕ) → first_that_holds (faults_of (above ss rs) form) ≡ o
    → option_map_or (λ kind. Err kind) o (Ok (added (above ss rs) form)) ≡ Ok d → Next d
Next-found ss rs again form d None e read =
    let same : added (above ss rs) form ≡ d = cc in
    subst Next same (Next-form ss rs again form e)
Next-found ss rs again form d (Some kind) e read = cc

Next-read : (ss : List Named) (rs : List Rule) → Again ss rs → (o : Option LineWords) (d : Draft) → read_form (above ss rs) o ≡ Ok d → Next d
Next-read ss rs again None d e = cc
Next-read ss rs again (Some form) d e = Next-found ss rs again form d (first_that_holds (faults_of (above ss rs) form)) refl e

Next-significant : (ss : List Named) (rs : List Rule) → Again ss rs → (words : List Word) (b : Bool) (d : Draft)
    → (if b then read_words (above ss rs) words else Ok (above ss rs)) ≡ Ok d → Next d
unfolding read_words
Next-significant ss rs again words true d e = Next-read ss rs again (form_of words) d e
Next-significant ss rs again words false d e = let same : above ss rs ≡ d = cc in subst Next same (Open ss rs again)

Next-line : (ss : List Named) (rs : List Rule) → Again ss rs → (line : List ℕ) (d : Draft) → read_line (above ss rs) line ≡ Ok d → Next d
unfolding read_line
Next-line ss rs again line d e = Next-significant ss rs again (words_of line) (is_significant (words_of line)) d e

-- ---- all lines

abbrev after : ℕ → List (List ℕ) → Draft → Result Plan (ℕ × ℕ)
after n lines d = read_from (n + 1) d lines

-- behind the default line nothing is said
closed_step : (n : ℕ) (b : Bool) (lines : List (List ℕ)) (ss : List Named) (rs : List Rule) (c : Choice) (words : List Word) (plan : Plan)
    → (read_from (n + 1) (closed ss rs c) lines ≡ Ok plan → plan ≡ record { sessions = ss; rules = rs; otherwise = c })
    → line_then (if b then read_words (closed ss rs c) words else Ok (closed ss rs c)) n (after n lines) ≡ Ok plan
    → plan ≡ record { sessions = ss; rules = rs; otherwise = c }
unfolding read_words
closed_step n true lines ss rs c words plan rest e = cc
closed_step n false lines ss rs c words plan rest e = rest e

closed_stays : (lines : List (List ℕ)) (n : ℕ) (ss : List Named) (rs : List Rule) (c : Choice) (plan : Plan)
    → read_from n (closed ss rs c) lines ≡ Ok plan → plan ≡ record { sessions = ss; rules = rs; otherwise = c }
unfolding read_from read_line
closed_stays [] n ss rs c plan e = cc
closed_stays (line ∷ lines) n ss rs c plan e =
    closed_step n (is_significant (words_of line)) lines ss rs c (words_of line) plan (closed_stays lines (n + 1) ss rs c plan) e

open_next : (n : ℕ) (lines : List (List ℕ)) (plan : Plan) (d : Draft) → Next d
    → ((ss : List Named) (rs : List Rule) → Again ss rs → read_from (n + 1) (above ss rs) lines ≡ Ok plan → Said plan)
    → read_from (n + 1) d lines ≡ Ok plan → Said plan
open_next n lines plan d (Open ss rs again) rest e = rest ss rs again e
open_next n lines plan d (Shut ss rs c again choice) rest e = subst Said (sym (closed_stays lines (n + 1) ss rs c plan e)) (said ss rs c again choice)

open_step : (n : ℕ) (line : List ℕ) (lines : List (List ℕ)) (ss : List Named) (rs : List Rule) (plan : Plan) (r : Result Draft ℕ) → Again ss rs → read_line (above ss rs) line ≡ r
    → ((ss' : List Named) (rs' : List Rule) → Again ss' rs' → read_from (n + 1) (above ss' rs') lines ≡ Ok plan → Said plan)
    → line_then r n (after n lines) ≡ Ok plan → Said plan
open_step n line lines ss rs plan (Ok d) again read rest e = open_next n lines plan d (Next-line ss rs again line d read) rest e
open_step n line lines ss rs plan (Err kind) again read rest e = cc

open_said : (lines : List (List ℕ)) (n : ℕ) (ss : List Named) (rs : List Rule) (plan : Plan) → Again ss rs → read_from n (above ss rs) lines ≡ Ok plan → Said plan
unfolding read_from
open_said [] n ss rs plan again e = cc
open_said (line ∷ lines) n ss rs plan again e =
    open_step n line lines ss rs plan (read_line (above ss rs) line) again refl (λ ss' rs' again' e'. open_said lines (n + 1) ss' rs' plan again' e') e

-- before the first line nothing is said
Again-none : Again [] []
Again-none = record { names = refl; sound = All-nil IsSoundSession; room = omega arith; sessions = Leads-none (above [] []); rules = tt; few = omega arith }

first_step : (n : ℕ) (significant header : Bool) (lines : List (List ℕ)) (words : List Word) (plan : Plan)
    → (read_from (n + 1) no_lines lines ≡ Ok plan → Said plan)
    → line_then (if significant then (if header then Ok (above [] []) else Err 1) else Ok no_lines) n (after n lines) ≡ Ok plan → Said plan
first_step n true true lines words plan rest e = open_said lines (n + 1) [] [] plan Again-none e
first_step n true false lines words plan rest e = cc
first_step n false header lines words plan rest e = rest e

first_said : (lines : List (List ℕ)) (n : ℕ) (plan : Plan) → read_from n no_lines lines ≡ Ok plan → Said plan
unfolding read_from read_line read_words
first_said [] n plan e = cc
first_said (line ∷ lines) n plan e =
    first_step n (is_significant (words_of line)) (is_header (words_of line)) lines (words_of line) plan (first_said lines (n + 1) plan) e

text_said : (text : List ℕ) (plan : Plan) → plan_of text ≡ Ok plan → Said plan
unfolding plan_of
text_said text plan e = first_said (lines_of text) 1 plan e

pub read_again : (text : List ℕ) (plan : Plan) → plan_of text ≡ Ok plan → plan_of (spelling plan) ≡ Ok plan
read_again text plan e = (text_said text plan e).again

-- what is read of a text is sound
pub read_sound : (text : List ℕ) (r : Result Plan ParseRefused) → GivesPlan r (plan_of text) → IfOk r IsSound
read_sound text (Ok plan) e = (text_said text plan e).sound
read_sound text (Err refused) e = tt
