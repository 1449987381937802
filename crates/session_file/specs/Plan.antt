-- What a session text says: a plan, or its first faulty line with the kind of the fault.
use Rattle.std.specs.Prelude.{◌==◌, ◌&&◌, ◌+◌, ◌++◌, ℕ, Bool, true, false, not, List, [], ◌∷◌, map, codes, Option, Some, None, Result, Ok, Err, unwrap_or, is_some, bytes_eq, if◌then◌else◌}
use Rattle.std.specs.List.{flat_map}
use Rattle.std.specs.Option.{option_map_or}
use Rattle.session_file.specs.declared.plan.Choice.TheVariants.{Pass}
use Rattle.session_file.specs.declared.plan.Plan.{Plan}
use Rattle.session_file.specs.declared.draft.Draft.{Draft}
use Rattle.session_file.specs.Text.{lines_of, words_of}
use Rattle.session_file.specs.Value.{Word, number, hex_bytes}
use Rattle.session_file.specs.Form.{LineWords, SessionWords, RuleWords, DefaultWords, form_of}
use Rattle.session_file.specs.Fault.{xform_of, part_salt, choice_of, faults_of, first_that_holds}

-- ---- one line

-- the draft with what a line says
abbrev pub added : Draft → LineWords → Draft
added d (SessionWords name parts) =
    record d { sessions = d.sessions ++ record { name = name; xforms = map xform_of parts; salt = flat_map part_salt parts } ∷ [] }
added d (RuleWords offset bytes target) =
    record d { rules = d.rules ++ record { offset = number offset; bytes = hex_bytes bytes; choice = unwrap_or (choice_of d.sessions target) Pass } ∷ [] }
added d (DefaultWords target) = record d { otherwise = choice_of d.sessions target }

-- a line behind the first, by its form
abbrev pub read_form : Draft → Option LineWords → Result Draft ℕ
read_form d None = Err 2
read_form d (Some form) = option_map_or (λ kind. Err kind) (first_that_holds (faults_of d form)) (Ok (added d form))

abbrev pub is_header : List Word → Bool
is_header (name ∷ version ∷ []) = bytes_eq name (codes "capcrypt") && bytes_eq version (codes "1")
is_header words = false

-- the draft behind a significant line, or the kind of its fault
unfoldable pub read_words : Draft → List Word → Result Draft ℕ
read_words d words =
    if is_some d.otherwise then Err 10
    else if d.begun then read_form d (form_of words)
    else if is_header words then Ok (record d { begun = true })
    else Err 1

-- the word begins with `#`
abbrev pub is_comment : Word → Bool
is_comment [] = false
is_comment (b ∷ rest) = b == 35

abbrev pub is_significant : List Word → Bool
is_significant [] = false
is_significant (word ∷ words) = not (is_comment word)

unfoldable pub read_line : Draft → List ℕ → Result Draft ℕ
read_line d line = if is_significant (words_of line) then read_words d (words_of line) else Ok d

-- ---- the lines

-- what the end says, where line n would be the next
abbrev pub finished : ℕ → Draft → Result Plan (ℕ × ℕ)
finished n d =
    if d.begun then option_map_or (λ choice. Ok (record { sessions = d.sessions; rules = d.rules; otherwise = choice })) d.otherwise (Err (n, 10))
    else Err (n, 1)

abbrev pub line_then : Result Draft ℕ → ℕ → (Draft → Result Plan (ℕ × ℕ)) → Result Plan (ℕ × ℕ)
line_then (Ok d) n next = next d
line_then (Err kind) n next = Err (n, kind)

-- the lines from number n on, below those of the draft
unfoldable pub read_from : ℕ → Draft → List (List ℕ) → Result Plan (ℕ × ℕ)
read_from n d [] = finished n d
read_from n d (line ∷ lines) = line_then (read_line d line) n (λ after. read_from (n + 1) after lines)

abbrev pub no_lines : Draft
no_lines = record { begun = false; sessions = []; rules = []; otherwise = None }

-- the plan of a text, or its first faulty line and the kind of the fault
unfoldable pub plan_of : List ℕ → Result Plan (ℕ × ℕ)
plan_of text = read_from 1 no_lines (lines_of text)
