-- The forms of lines, by their number of words and their fixed words. A word in another place may be anything.
use Rattle.std.specs.Prelude.{List, [], ◌∷◌, codes, Option, Some, None, option_map, option_and_then, bytes_eq, if◌then◌else◌}
use Rattle.crypto_model.specs.declared.plain.CipherAlg.{CipherAlg}
use Rattle.crypto_model.specs.declared.plain.CipherAlg.TheVariants.{AesCbc, AesCtr}
use Rattle.crypto_model.specs.declared.plain.Dir.{Dir}
use Rattle.crypto_model.specs.declared.plain.Dir.TheVariants.{Encrypt, Decrypt}
use Rattle.crypto_model.specs.declared.plain.Act.{Act}
use Rattle.crypto_model.specs.declared.plain.Act.TheVariants.{Generate, Verify}
use Rattle.crypto_model.specs.declared.plain.Hash.{Hash}
use Rattle.crypto_model.specs.declared.plain.Hash.TheVariants.{Sha224, Sha256, Sha384, Sha512}
use Rattle.session_file.specs.Value.{Word}

-- one X
pub data PartWords : Type 0 where
  -- key, salt
  CipherWords : CipherAlg → Dir → Word → Word → PartWords
  -- key, salt, tag length, AAD length
  AeadWords : Dir → Word → Word → Word → Word → PartWords
  -- key, digest length
  AuthWords : Hash → Act → Word → Word → PartWords

pub data TargetWords : Type 0 where
  PassWord : TargetWords
  -- name, skip
  UseWords : Word → Word → TargetWords

pub data LineWords : Type 0 where
  -- name, X or X + X
  SessionWords : Word → List PartWords → LineWords
  -- offset, bytes
  RuleWords : Word → Word → TargetWords → LineWords
  DefaultWords : TargetWords → LineWords

-- ---- the fixed words

unfoldable pub alg_of : Word → Option CipherAlg
alg_of w = if bytes_eq w (codes "cbc") then Some AesCbc else if bytes_eq w (codes "ctr") then Some AesCtr else None

unfoldable pub dir_of : Word → Option Dir
dir_of w = if bytes_eq w (codes "encrypt") then Some Encrypt else if bytes_eq w (codes "decrypt") then Some Decrypt else None

unfoldable pub act_of : Word → Option Act
act_of w = if bytes_eq w (codes "generate") then Some Generate else if bytes_eq w (codes "verify") then Some Verify else None

unfoldable pub hash_of : Word → Option Hash
hash_of w =
    if bytes_eq w (codes "hmac-sha224") then Some Sha224
    else if bytes_eq w (codes "hmac-sha256") then Some Sha256
    else if bytes_eq w (codes "hmac-sha384") then Some Sha384
    else if bytes_eq w (codes "hmac-sha512") then Some Sha512
    else None

-- ---- X

abbrev pub aead_at : Option Dir → Word → Word → List Word → Option (PartWords × List Word)
aead_at (Some dir) key salt (tag ∷ aad ∷ rest) = Some (AeadWords dir key salt tag aad, rest)
aead_at dir key salt rest = None

abbrev pub cipher_at : CipherAlg → Option Dir → Word → Word → List Word → Option (PartWords × List Word)
cipher_at alg (Some dir) key salt rest = Some (CipherWords alg dir key salt, rest)
cipher_at alg None key salt rest = None

abbrev pub auth_at : Option Hash → Option Act → Word → Word → List Word → Option (PartWords × List Word)
auth_at (Some hash) (Some act) key len rest = Some (AuthWords hash act key len, rest)
auth_at hash act key len rest = None

abbrev pub cipher_or_auth : Option CipherAlg → Word → Word → Word → Word → List Word → Option (PartWords × List Word)
cipher_or_auth (Some alg) kind way key last rest = cipher_at alg (dir_of way) key last rest
cipher_or_auth None kind way key last rest = auth_at (hash_of kind) (act_of way) key last rest

-- an X at the front of the words, and the words behind it
unfoldable pub part_at : List Word → Option (PartWords × List Word)
part_at (kind ∷ way ∷ key ∷ last ∷ rest) =
    if bytes_eq kind (codes "gcm") then aead_at (dir_of way) key last rest else cipher_or_auth (alg_of kind) kind way key last rest
part_at words = None

abbrev pub both_parts : PartWords → PartWords × List Word → Option (List PartWords)
both_parts first (second, []) = Some (first ∷ second ∷ [])
both_parts first (second, word ∷ rest) = None

abbrev pub more_parts : PartWords × List Word → Option (List PartWords)
more_parts (first, []) = Some (first ∷ [])
more_parts (first, word ∷ rest) = if bytes_eq word (codes "+") then option_and_then (both_parts first) (part_at rest) else None

-- X or X + X
unfoldable pub parts_of : List Word → Option (List PartWords)
parts_of words = option_and_then more_parts (part_at words)

-- ---- the lines

-- the end of a rule or default line
unfoldable pub target_of : List Word → Option TargetWords
target_of (word ∷ []) = if bytes_eq word (codes "pass") then Some PassWord else None
target_of (name ∷ skip ∷ []) = Some (UseWords name skip)
target_of words = None

abbrev pub session_form : List Word → Option LineWords
session_form (name ∷ rest) = option_map (SessionWords name) (parts_of rest)
session_form [] = None

abbrev pub rule_form : List Word → Option LineWords
rule_form (offset ∷ bytes ∷ rest) = option_map (RuleWords offset bytes) (target_of rest)
rule_form words = None

unfoldable pub form_of : List Word → Option LineWords
form_of (first ∷ rest) =
    if bytes_eq first (codes "session") then session_form rest
    else if bytes_eq first (codes "rule") then rule_form rest
    else if bytes_eq first (codes "default") then option_map DefaultWords (target_of rest)
    else None
form_of [] = None
