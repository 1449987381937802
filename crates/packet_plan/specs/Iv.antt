-- The IV of packet n.
use Rattle.std.specs.Prelude.{ℕ, List, [], ◌∷◌, ◌++◌}
use Rattle.std.specs.Int.{w32, w64, to_be_bytes}
use Rattle.crypto_model.specs.declared.plain.CipherAlg.TheVariants.{AesCbc, AesCtr}
use Rattle.crypto_model.specs.Aes.{cipher}
use Rattle.crypto_model.specs.Process.{Transform, Cipher, Auth, Aead}

-- the salt, and the packet's number in eight bytes
abbrev pub nonce : List ℕ → ℕ → List ℕ
nonce salt n = salt ++ to_be_bytes w64 n

-- CTR: the nonce, and the number of the first block in four bytes (RFC 3686, 4). CBC: the nonce, encrypted under
-- the session's key (SP 800-38A, Appendix C). GCM: the nonce. A code has none.
unfoldable pub iv_of : List Transform → List ℕ → ℕ → List ℕ
iv_of [] salt n = []
iv_of (Cipher AesCtr dir key ∷ ts) salt n = nonce salt n ++ to_be_bytes w32 1
iv_of (Cipher AesCbc dir key ∷ ts) salt n = cipher key (nonce salt n)
iv_of (Aead dir key len aad_len ∷ ts) salt n = nonce salt n
iv_of (Auth hash act key len ∷ ts) salt n = iv_of ts salt n
