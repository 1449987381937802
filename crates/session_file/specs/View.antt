-- The code's lines and answers, as the definition has them.
use Rattle.std.specs.Prelude.{ℕ, Bool, true, false, length, is_none, nat_le, List, [], ◌∷◌, map, ◌≡◌, Option, Some, None, Result, Ok, Err}
use Rattle.std.specs.Borrow.{Bor}
use Rattle.session_file.specs.declared.part.Part.{Part}
use Rattle.session_file.specs.declared.part.Part.TheVariants as part
use Rattle.session_file.specs.declared.part.Chain.{Chain}
use Rattle.session_file.specs.declared.form.Target.{Target}
use Rattle.session_file.specs.declared.form.Target.TheVariants as target
use Rattle.session_file.specs.declared.form.Form.{Form}
use Rattle.session_file.specs.declared.form.Form.TheVariants as form
use Rattle.session_file.specs.declared.draft.Draft.{Draft}
use Rattle.session_file.specs.declared.plan.Named.{Named}
use Rattle.session_file.specs.declared.plan.Choice.{Choice}
use Rattle.session_file.specs.declared.plan.Plan.{Plan}
use Rattle.session_file.specs.declared.refused.Kind.{Kind}
use Rattle.session_file.specs.declared.refused.Kind.TheVariants as kind
use Rattle.session_file.specs.declared.refused.LineRefused.{LineRefused}
use Rattle.session_file.specs.declared.refused.LineRefused.TheVariants as line
use Rattle.session_file.specs.declared.refused.ParseRefused.{ParseRefused}
use Rattle.session_file.specs.declared.refused.ParseRefused.TheVariants as refused
use Rattle.session_file.specs.Value.{Word, hex_bytes}
use Rattle.session_file.specs.Fault.{choice_of, has_good_skip}
use Rattle.session_file.specs.Form.{PartWords, CipherWords, AeadWords, AuthWords, TargetWords, PassWord, UseWords, LineWords, SessionWords, RuleWords, DefaultWords}

-- ---- lines, apart from where their words lie

abbrev pub texts : List (Bor (List ℕ)) → List Word
texts words = map (λ w. w.now) words

abbrev pub part_view : Part → PartWords
part_view (part.Cipher alg dir key salt) = CipherWords alg dir key.now salt.now
part_view (part.Aead dir key salt tag_len aad_len) = AeadWords dir key.now salt.now tag_len.now aad_len.now
part_view (part.Auth hash act key digest_len) = AuthWords hash act key.now digest_len.now

abbrev pub parts_view : Part → Option Part → List PartWords
parts_view first None = part_view first ∷ []
parts_view first (Some second) = part_view first ∷ part_view second ∷ []

abbrev pub chain_view : Chain → List PartWords
chain_view c = parts_view c.first c.second

abbrev pub target_view : Target → TargetWords
target_view target.Pass = PassWord
target_view (target.Use name skip) = UseWords name.now skip.now

abbrev pub form_view : Form → LineWords
form_view (form.Session name chain) = SessionWords name.now (chain_view chain)
form_view (form.Rule offset bytes to) = RuleWords offset.now bytes.now (target_view to)
form_view (form.Default to) = DefaultWords (target_view to)

-- ---- answers

-- the key has no more bytes than a session takes
abbrev pub has_short_key : PartWords → Bool
has_short_key (CipherWords alg dir key salt) = nat_le (length (hex_bytes key)) 1024
has_short_key (AeadWords dir key salt tag aad) = nat_le (length (hex_bytes key)) 1024
has_short_key (AuthWords hash act key len) = nat_le (length (hex_bytes key)) 1024

abbrev pub number_of : Kind → ℕ
number_of kind.Header = 1
number_of kind.Form = 2
number_of kind.Number = 3
number_of kind.Hex = 4
number_of kind.Name = 5
number_of kind.Session = 6
number_of kind.Transforms = 7
number_of kind.Skip = 8
number_of kind.Limit = 9
number_of kind.End = 10

-- the choice of a target among these sessions, or why it has none
abbrev pub ChoiceRead : List Named → TargetWords → Result Choice Kind → Type 0
ChoiceRead sessions to (Ok choice) = (choice_of sessions to ≡ Some choice) × (has_good_skip sessions to ≡ true)
ChoiceRead sessions to (Err kind.Session) = choice_of sessions to ≡ None
ChoiceRead sessions to (Err kind.Skip) = (is_none (choice_of sessions to) ≡ false) × (has_good_skip sessions to ≡ false)
ChoiceRead sessions to (Err k) = ⊥

-- a line was read as the definition reads it: the new draft, or the kind of the fault, or memory was wanting
abbrev pub Reads : Draft → Result (Unit {0}) LineRefused → Result Draft ℕ → Type 0
Reads new (Ok u) read = read ≡ Ok new
Reads new (Err (line.Fault k)) read = read ≡ Err (number_of k)
Reads new (Err line.OutOfMemory) read = Unit {0}

-- the text was read as the definition reads it: the plan, or the fault, or memory was wanting
abbrev pub GivesPlan : Result Plan ParseRefused → Result Plan (ℕ × ℕ) → Type 0
GivesPlan (Ok plan) read = read ≡ Ok plan
GivesPlan (Err (refused.Fault n k)) read = read ≡ Err (n, k)
GivesPlan (Err refused.OutOfMemory) read = Unit {0}

abbrev pub stop_of : ℕ → LineRefused → ParseRefused
stop_of n (line.Fault k) = refused.Fault n (number_of k)
stop_of n line.OutOfMemory = refused.OutOfMemory
