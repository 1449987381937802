-- A session verifies before it changes anything.
use Rattle.std.specs.Prelude.{◌≡◌, List, Bool, true, false, drop}
use Rattle.std.specs.List.{list_all}
use Rattle.crypto_model.specs.declared.plain.Dir.TheVariants.{Encrypt, Decrypt}
use Rattle.crypto_model.specs.declared.plain.Act.TheVariants.{Generate, Verify}
use Rattle.crypto_model.specs.Process.{Transform, Cipher, Auth, Aead}

abbrev pub never_fails : Transform → Bool
never_fails (Cipher alg dir key) = true
never_fails (Auth hash Generate key n) = true
never_fails (Auth hash Verify key n) = false
never_fails (Aead Encrypt key n aad_len) = true
never_fails (Aead Decrypt key n aad_len) = false

-- only the first transform may be a verification
abbrev pub VerifiesFirst : List Transform → Type 0
VerifiesFirst ts = list_all never_fails (drop 1 ts) ≡ true
