-- The hash subkey.
use Rattle.std.specs.Prelude.{ℕ, List, replicate}
use Rattle.crypto_model.specs.Aes.{cipher}
use Rattle.crypto_model.specs.Gcm.{bits_of}

-- the bits of the block of zeros under the key (7.1, step 1)
unfoldable pub subkey : List ℕ → List ℕ
subkey key = bits_of (cipher key (replicate 16 0))
