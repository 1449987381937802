-- GHASH of a text that comes in pieces.
use Rattle.std.specs.Prelude.{◌≡◌, ℕ, ◌%◌, List, ◌++◌, length, take, replicate}
use Rattle.crypto_model.specs.Modes.{blocks}
use Rattle.crypto_model.specs.Gcm.{bits_128, ghash_from}
use Rattle.gcm_core.specs.Subkey.{subkey}
use Rattle.gcm_core.specs.declared.hash.Ghash.{Ghash}

-- the state s under this key has taken in this text
pub record IsHashed (key : List ℕ) (s : Ghash) (text : List ℕ) : Type 0 where
  -- the bytes of the blocks that were hashed
  pub front : List ℕ
  pub same_key : s.key.now ≡ key
  pub whole : length front % 16 ≡ 0
  pub sum : bits_128 s.sum ≡ ghash_from (subkey key) (replicate 128 0) (blocks front)
  pub parts : text ≡ front ++ take s.held s.block
