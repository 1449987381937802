-- CTR of a text that comes in pieces.
use Rattle.std.specs.Prelude.{◌≡◌, ℕ, ◌+◌, ◌*◌, ◌%◌, ◌^◌, ◌≤◌, List, ◌++◌, length, drop}
use Rattle.crypto_model.specs.Aes.{cipher}
use Rattle.crypto_model.specs.Modes.{ctr, counter_of}
use Rattle.aes_modes.specs.Counters.{key_stream}
use Rattle.aes_modes.specs.declared.ctr.Ctr.{Ctr}

-- the bytes of the begun blocks' key stream that no text has used
abbrev pub unused : Ctr → List ℕ
unused s = drop s.used s.stream

-- the state s, begun with this key and counter block, has taken in this text
pub record IsFed (key iv : List ℕ) (s : Ctr) (text : List ℕ) : Type 0 where
  -- how many blocks of key stream were begun
  pub begun : ℕ
  pub same_key : s.key.now ≡ key
  pub counter : s.counter ≡ (counter_of iv + begun) % 2 ^ 128
  pub within : length text ≤ 16 * begun
  pub left : unused s ≡ drop (length text) (key_stream (cipher key) (counter_of iv) begun)

-- from any text on, the piece is taken in behind it, and `out` comes out
abbrev pub Feeds : Ctr → Ctr → List ℕ → List ℕ → Type 0
Feeds before after piece out = (key iv text : List ℕ) → IsFed key iv before text → IsFed key iv after (text ++ piece)
    × (ctr (cipher key) iv (text ++ piece) ≡ ctr (cipher key) iv text ++ out)
