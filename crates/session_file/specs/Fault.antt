-- What the words of a line say, and what can be wrong with them.
use Rattle.std.specs.Prelude.{◌==◌, ◌||◌, ◌&&◌, ℕ, Bool, true, not, List, [], ◌∷◌, length, map, Option, Some, None, option_map, is_none, find, position, nat_le, nat_lt, bytes_eq, if◌then◌else◌}
use Rattle.std.specs.List.{list_all, list_any}
use Rattle.std.specs.Option.{option_map_or}
use Rattle.crypto_model.specs.declared.plain.CipherAlg.TheVariants.{AesCbc, AesCtr}
use Rattle.sym_session.specs.declared.xform.Xform.{Xform}
use Rattle.sym_session.specs.declared.xform.Xform.TheVariants.{Cipher, Auth, Aead}
use Rattle.sym_session.specs.Xform.{transform_of}
use Rattle.sym_session.specs.Fault.{fault_of}
use Rattle.session_file.specs.declared.plan.Choice.{Choice}
use Rattle.session_file.specs.declared.plan.Choice.TheVariants.{Pass, Use}
use Rattle.session_file.specs.declared.plan.Named.{Named}
use Rattle.session_file.specs.declared.draft.Draft.{Draft}
use Rattle.session_file.specs.Value.{Word, is_number, number, is_hex, hex_bytes, is_name}
use Rattle.session_file.specs.Form.{PartWords, CipherWords, AeadWords, AuthWords, TargetWords, PassWord, UseWords, LineWords, SessionWords, RuleWords, DefaultWords}

-- ---- the words in the places

abbrev pub part_numbers : PartWords → List Word
part_numbers (CipherWords alg dir key salt) = []
part_numbers (AeadWords dir key salt tag aad) = tag ∷ aad ∷ []
part_numbers (AuthWords hash act key len) = len ∷ []

abbrev pub part_hexes : PartWords → List Word
part_hexes (CipherWords alg dir key salt) = key ∷ salt ∷ []
part_hexes (AeadWords dir key salt tag aad) = key ∷ salt ∷ []
part_hexes (AuthWords hash act key len) = key ∷ []

abbrev pub target_numbers : TargetWords → List Word
target_numbers PassWord = []
target_numbers (UseWords name skip) = skip ∷ []

abbrev pub has_numbers : PartWords → Bool
has_numbers p = list_all is_number (part_numbers p)

abbrev pub has_hexes : PartWords → Bool
has_hexes p = list_all is_hex (part_hexes p)

-- ---- sessions

abbrev pub xform_of : PartWords → Xform
xform_of (CipherWords alg dir key salt) = Cipher alg dir (hex_bytes key)
xform_of (AeadWords dir key salt tag aad) = Aead dir (hex_bytes key) (number tag) (number aad)
xform_of (AuthWords hash act key len) = Auth hash act (hex_bytes key) (number len)

abbrev pub part_salt : PartWords → List ℕ
part_salt (CipherWords alg dir key salt) = hex_bytes salt
part_salt (AeadWords dir key salt tag aad) = hex_bytes salt
part_salt (AuthWords hash act key len) = []

-- 4 bytes for CTR and GCM, 8 for CBC
abbrev pub has_good_salt : PartWords → Bool
has_good_salt (CipherWords AesCbc dir key salt) = length (hex_bytes salt) == 8
has_good_salt (CipherWords AesCtr dir key salt) = length (hex_bytes salt) == 4
has_good_salt (AeadWords dir key salt tag aad) = length (hex_bytes salt) == 4
has_good_salt (AuthWords hash act key len) = true

-- a session can be made of the transforms, if there is memory
unfoldable pub makes_session : List Xform → Bool
makes_session xforms = is_none (fault_of (map transform_of xforms))

abbrev pub has_name : Word → Named → Bool
has_name name s = bytes_eq s.name name

-- ---- choices

-- the choice of a target, where it names a session above
abbrev pub choice_of : List Named → TargetWords → Option Choice
choice_of sessions PassWord = Some Pass
choice_of sessions (UseWords name skip) = option_map (λ i. Use (record { 0 = i }) (number skip)) (position (has_name name) sessions)

-- with GCM the skip is the AAD length, with HMAC alone it is 0 (GCM is always alone)
abbrev pub takes_skip : ℕ → List Xform → Bool
takes_skip skip (Aead dir key tag_len aad_len ∷ []) = skip == aad_len
takes_skip skip (Auth hash act key digest_len ∷ []) = skip == 0
takes_skip skip xforms = true

abbrev pub has_good_skip : List Named → TargetWords → Bool
has_good_skip sessions PassWord = true
has_good_skip sessions (UseWords name skip) = option_map_or (λ s. takes_skip (number skip) s.xforms) (find (has_name name) sessions) true

-- ---- the faults of a line that has a form: each kind with its test, in their order

abbrev pub faults_of : Draft → LineWords → List (ℕ × Bool)
faults_of d (SessionWords name parts) =
    (3, not (list_all has_numbers parts))
    ∷ (4, not (list_all has_hexes parts))
    ∷ (5, not (is_name name) || list_any (has_name name) d.sessions)
    ∷ (7, not (list_all has_good_salt parts && makes_session (map xform_of parts)))
    ∷ (9, nat_le 1024 (length d.sessions)) ∷ []
faults_of d (RuleWords offset bytes target) =
    (3, not (list_all is_number (offset ∷ target_numbers target)))
    ∷ (4, not (is_hex bytes))
    ∷ (6, is_none (choice_of d.sessions target))
    ∷ (8, not (has_good_skip d.sessions target))
    ∷ (9, nat_le 1024 (length d.rules) || nat_lt 64 (length (hex_bytes bytes))) ∷ []
faults_of d (DefaultWords target) =
    (3, not (list_all is_number (target_numbers target)))
    ∷ (6, is_none (choice_of d.sessions target))
    ∷ (8, not (has_good_skip d.sessions target)) ∷ []

abbrev pub first_that_holds : List (ℕ × Bool) → Option ℕ
first_that_holds [] = None
first_that_holds ((kind, holds) ∷ rest) = if holds then Some kind else first_that_holds rest
