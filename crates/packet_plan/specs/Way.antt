-- What is done with the packets of a session, by its transforms.
use Rattle.std.specs.Prelude.{ℕ, ◌+◌, Bool, true, false, List, [], ◌∷◌}
use Rattle.std.specs.List.{list_any}
use Rattle.crypto_model.specs.declared.plain.Dir.TheVariants.{Encrypt, Decrypt}
use Rattle.crypto_model.specs.declared.plain.Act.TheVariants.{Generate, Verify}
use Rattle.crypto_model.specs.Process.{Transform, Cipher, Auth, Aead}
use Rattle.packet_plan.specs.declared.way.Way.{Way}

-- it decrypts or verifies
abbrev pub takes_back : Transform → Bool
takes_back (Cipher alg Encrypt key) = false
takes_back (Cipher alg Decrypt key) = true
takes_back (Auth hash Generate key n) = false
takes_back (Auth hash Verify key n) = true
takes_back (Aead Encrypt key n aad_len) = false
takes_back (Aead Decrypt key n aad_len) = true

-- the bytes of its digest or tag
abbrev pub digest_len_of : Transform → ℕ
digest_len_of (Cipher alg dir key) = 0
digest_len_of (Auth hash act key n) = n
digest_len_of (Aead dir key n aad_len) = n

abbrev pub digests_len : List Transform → ℕ
digests_len [] = 0
digests_len (t ∷ ts) = digest_len_of t + digests_len ts

-- it encrypts or decrypts
abbrev pub has_data : Transform → Bool
has_data (Cipher alg dir key) = true
has_data (Auth hash act key n) = false
has_data (Aead dir key n aad_len) = true

-- it makes or compares a code
abbrev pub has_code : Transform → Bool
has_code (Cipher alg dir key) = false
has_code (Auth hash act key n) = true
has_code (Aead dir key n aad_len) = false

-- it also covers data that stays as it is
abbrev pub has_aad : Transform → Bool
has_aad (Cipher alg dir key) = false
has_aad (Auth hash act key n) = false
has_aad (Aead dir key n aad_len) = true

unfoldable pub way_of : List Transform → Way
way_of ts = record {
  inward = list_any takes_back ts;
  digest_len = digests_len ts;
  crypts = list_any has_data ts;
  code = list_any has_code ts;
  aead = list_any has_aad ts;
}
