-- The tag of a ciphertext that comes in pieces.
use Rattle.std.specs.Prelude.{◌≡◌, ℕ, ◌%◌, ◌^◌, List, ◌++◌, length}
use Rattle.crypto_model.specs.Aes.{cipher}
use Rattle.crypto_model.specs.Gcm.{iv_block, padded}
use Rattle.gcm_core.specs.Hashing.{IsHashed}
use Rattle.gcm_core.specs.declared.tag.TagState.{TagState}

-- the state s, begun with this key, IV and data that is only authenticated, has taken in this ciphertext
pub record IsTagging (key iv aad : List ℕ) (s : TagState) (text : List ℕ) : Type 0 where
  pub mask : s.mask ≡ cipher key (iv_block iv 1)
  pub aad_len : s.aad_len ≡ length aad % 2 ^ 64
  pub text_len : s.text_len ≡ length text % 2 ^ 64
  pub hashed : IsHashed key s.hash (padded aad ++ text)
