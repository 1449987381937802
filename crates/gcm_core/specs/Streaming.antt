-- The key stream over a text that comes in pieces.
use Rattle.std.specs.Prelude.{◌≡◌, ℕ, ◌+◌, ◌-◌, ◌*◌, ◌%◌, ◌^◌, ◌<◌, List, ◌++◌, length, slice_index}
use Rattle.crypto_model.specs.Aes.{cipher}
use Rattle.crypto_model.specs.Gcm.{iv_block, gcm_text}
use Rattle.aes_modes.specs.Feeding as Ctr
use Rattle.gcm_core.specs.declared.stream.KeyStream.{KeyStream}

-- the state s, begun with this key and IV, has taken in this text
pub record IsFed (key iv : List ℕ) (s : KeyStream) (text : List ℕ) : Type 0 where
  -- the bytes before CTR was last begun, in so many blocks, and those behind
  pub gone : List ℕ
  pub before : ℕ
  pub here : List ℕ
  pub same_key : s.key.now ≡ key
  pub same_iv : s.iv ≡ iv
  pub long : length iv ≡ 12
  pub bytes : (i : ℕ) → slice_index iv i < 256
  pub parts : text ≡ gone ++ here
  pub whole : length gone ≡ 16 * before
  pub room : s.left + length here ≡ 16 * (2 ^ 32 - (2 + before) % 2 ^ 32)
  pub fed : Ctr.IsFed key (iv_block iv (2 + before)) s.stream here

-- from any text on, the piece is taken in behind it, and `out` comes out
abbrev pub Feeds : KeyStream → KeyStream → List ℕ → List ℕ → Type 0
Feeds before after piece out = (key iv text : List ℕ) → IsFed key iv before text → IsFed key iv after (text ++ piece)
    × (gcm_text (cipher key) iv (text ++ piece) ≡ gcm_text (cipher key) iv text ++ out)
