-- CBC of a text that comes in pieces of whole blocks.
use Rattle.std.specs.Prelude.{◌≡◌, ℕ, ◌%◌, List, ◌++◌, length, drop}
use Rattle.crypto_model.specs.Aes.{cipher, inverse_cipher}
use Rattle.crypto_model.specs.Modes.{cbc_encrypt, cbc_decrypt}
use Rattle.aes_modes.specs.declared.cbc.CbcEnc.{CbcEnc}
use Rattle.aes_modes.specs.declared.cbc.CbcDec.{CbcDec}

-- the last block of whole blocks that lie behind the block c: c itself, where there are none
abbrev pub last_block : List ℕ → List ℕ → List ℕ
last_block c xs = drop (length xs) (c ++ xs)

-- the encryption s, begun with this key and IV, has taken in this text
pub record IsChained (key iv : List ℕ) (s : CbcEnc) (text : List ℕ) : Type 0 where
  pub same_key : s.key.now ≡ key
  pub whole : length text % 16 ≡ 0
  pub last : s.last ≡ last_block iv (cbc_encrypt (cipher key) iv text)

-- the decryption s, begun with this key and IV, has taken in this ciphertext
pub record IsUnchained (key iv : List ℕ) (s : CbcDec) (text : List ℕ) : Type 0 where
  pub same_key : s.key.now ≡ key
  pub whole : length text % 16 ≡ 0
  pub last : s.last ≡ last_block iv text

-- the piece is encrypted behind the last block, and `out` comes out
pub record Chains (before after : CbcEnc) (piece out : List ℕ) : Type 0 where
  pub same_key : after.key.now ≡ before.key.now
  pub made : out ≡ cbc_encrypt (cipher before.key.now) before.last piece
  pub last : after.last ≡ last_block before.last out

-- the piece is decrypted behind the last block, and `out` comes out
pub record Unchains (before after : CbcDec) (piece out : List ℕ) : Type 0 where
  pub same_key : after.key.now ≡ before.key.now
  pub made : out ≡ cbc_decrypt (inverse_cipher before.key.now) before.last piece
  pub last : after.last ≡ last_block before.last piece
