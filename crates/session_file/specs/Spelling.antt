-- The text of a plan: single spaces, lower-case digits, numbers without leading zeros, LF behind each line.
use Rattle.std.specs.Prelude.{ℕ, List, [], ◌∷◌, ◌++◌, codes, decimal, slice_get}
use Rattle.std.specs.List.{flat_map}
use Rattle.std.specs.Option.{option_map_or}
use Rattle.hex.specs.Hex.{encode_lower}
use Rattle.crypto_model.specs.declared.plain.CipherAlg.{CipherAlg}
use Rattle.crypto_model.specs.declared.plain.CipherAlg.TheVariants.{AesCbc, AesCtr}
use Rattle.crypto_model.specs.declared.plain.Dir.{Dir}
use Rattle.crypto_model.specs.declared.plain.Dir.TheVariants.{Encrypt, Decrypt}
use Rattle.crypto_model.specs.declared.plain.Act.{Act}
use Rattle.crypto_model.specs.declared.plain.Act.TheVariants.{Generate, Verify}
use Rattle.crypto_model.specs.declared.plain.Hash.{Hash}
use Rattle.crypto_model.specs.declared.plain.Hash.TheVariants.{Sha224, Sha256, Sha384, Sha512}
use Rattle.sym_session.specs.declared.xform.Xform.{Xform}
use Rattle.sym_session.specs.declared.xform.Xform.TheVariants.{Cipher, Auth, Aead}
use Rattle.session_file.specs.declared.plan.Choice.{Choice}
use Rattle.session_file.specs.declared.plan.Choice.TheVariants.{Pass, Use}
use Rattle.session_file.specs.declared.plan.Named.{Named}
use Rattle.session_file.specs.declared.plan.Rule.{Rule}
use Rattle.session_file.specs.declared.plan.Plan.{Plan}

abbrev pub spaced : List ℕ → List ℕ
spaced word = 32 ∷ word

abbrev pub alg_word : CipherAlg → List ℕ
alg_word AesCbc = codes "cbc"
alg_word AesCtr = codes "ctr"

abbrev pub dir_word : Dir → List ℕ
dir_word Encrypt = codes "encrypt"
dir_word Decrypt = codes "decrypt"

abbrev pub act_word : Act → List ℕ
act_word Generate = codes "generate"
act_word Verify = codes "verify"

abbrev pub hash_word : Hash → List ℕ
hash_word Sha224 = codes "hmac-sha224"
hash_word Sha256 = codes "hmac-sha256"
hash_word Sha384 = codes "hmac-sha384"
hash_word Sha512 = codes "hmac-sha512"

-- one X, under the salt of its session
unfoldable pub xform_text : List ℕ → Xform → List ℕ
xform_text salt (Cipher alg dir key) = spaced (alg_word alg) ++ spaced (dir_word dir) ++ spaced (encode_lower key) ++ spaced (encode_lower salt)
xform_text salt (Aead dir key tag_len aad_len) =
    spaced (codes "gcm") ++ spaced (dir_word dir) ++ spaced (encode_lower key) ++ spaced (encode_lower salt)
    ++ spaced (decimal tag_len) ++ spaced (decimal aad_len)
xform_text salt (Auth hash act key digest_len) = spaced (hash_word hash) ++ spaced (act_word act) ++ spaced (encode_lower key) ++ spaced (decimal digest_len)

-- X or X + X (no session has more)
unfoldable pub chain_text : List ℕ → List Xform → List ℕ
chain_text salt (x ∷ y ∷ rest) = xform_text salt x ++ spaced (codes "+") ++ xform_text salt y
chain_text salt (x ∷ []) = xform_text salt x
chain_text salt [] = []

unfoldable pub session_text : Named → List ℕ
session_text s = codes "session" ++ spaced s.name ++ chain_text s.salt s.xforms ++ 10 ∷ []

abbrev pub name_at : List Named → ℕ → List ℕ
name_at sessions i = option_map_or (λ s. s.name) (slice_get sessions i) []

unfoldable pub choice_text : List Named → Choice → List ℕ
choice_text sessions Pass = spaced (codes "pass")
choice_text sessions (Use id skip) = spaced (name_at sessions id.0) ++ spaced (decimal skip)

unfoldable pub rule_text : List Named → Rule → List ℕ
rule_text sessions r = codes "rule" ++ spaced (decimal r.offset) ++ spaced (encode_lower r.bytes) ++ choice_text sessions r.choice ++ 10 ∷ []

unfoldable pub default_text : List Named → Choice → List ℕ
default_text sessions choice = codes "default" ++ choice_text sessions choice ++ 10 ∷ []

-- the text of a plan
unfoldable pub spelling : Plan → List ℕ
spelling plan = codes "capcrypt 1\n" ++ flat_map session_text plan.sessions ++ flat_map (rule_text plan.sessions) plan.rules
    ++ default_text plan.sessions plan.otherwise
