-- Which lists of transforms a session can be.
use Rattle.std.specs.Prelude.{List, [], ◌∷◌, length, Bool, true, false, ◌&&◌, ◌||◌, nat_eq, nat_le}
use Rattle.crypto_model.specs.Aes.{is_key_length}
use Rattle.crypto_model.specs.Hmac.{digest_size}
use Rattle.crypto_model.specs.Process.{Transform, Cipher, Auth, Aead}
use Rattle.crypto_model.specs.declared.plain.Dir.TheVariants.{Encrypt, Decrypt}
use Rattle.crypto_model.specs.declared.plain.Act.TheVariants.{Generate, Verify}

-- the key has a length that the algorithm takes
abbrev pub key_fits : Transform → Bool
key_fits (Cipher alg dir key) = is_key_length (length key)
key_fits (Auth hash act key n) = nat_le 1 (length key) && nat_le (length key) 1024
key_fits (Aead dir key n aad_len) = is_key_length (length key)

-- the digest has 4 bytes to the code's full length, the tag one of the lengths of SP 800-38D (5.2.1.2)
abbrev pub digest_fits : Transform → Bool
digest_fits (Cipher alg dir key) = true
digest_fits (Auth hash act key n) = nat_le 4 n && nat_le n (digest_size hash)
digest_fits (Aead dir key n aad_len) = nat_eq n 4 || (nat_eq n 8 || (nat_le 12 n && nat_le n 16))

abbrev pub aad_len_fits : Transform → Bool
aad_len_fits (Cipher alg dir key) = true
aad_len_fits (Auth hash act key n) = true
aad_len_fits (Aead dir key n aad_len) = nat_le aad_len 255

-- one transform, or encryption and then a code over the ciphertext, or the same taken back
abbrev pub is_chain : List Transform → Bool
is_chain [] = false
is_chain (t ∷ []) = true
is_chain (Cipher alg Encrypt key ∷ Auth hash Generate code_key n ∷ []) = true
is_chain (Auth hash Verify code_key n ∷ Cipher alg Decrypt key ∷ []) = true
is_chain (t ∷ u ∷ ts) = false
