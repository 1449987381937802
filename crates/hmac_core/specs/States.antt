-- What a key, a hash under way and a code under way hold.
use Rattle.std.specs.Prelude.{◌≡◌, ℕ, List, ◌++◌, replicate}
use Rattle.sha2.specs.Hashers.{Holds224, Holds256, Holds384, Holds512}
use Rattle.crypto_model.specs.declared.plain.Hash.{Hash}
use Rattle.crypto_model.specs.declared.plain.Hash.TheVariants as H
use Rattle.crypto_model.specs.Hmac.{block_key, block_size, hash_of}
use Rattle.crypto_model.specs.Modes.{xor_with}
use Rattle.hmac_core.specs.declared.key.HmacKey.{HmacKey}
use Rattle.hmac_core.specs.declared.state.State.{State}
use Rattle.hmac_core.specs.declared.state.State.TheVariants.{Sha224, Sha256, Sha384, Sha512}
use Rattle.hmac_core.specs.declared.code.Hmac.{Hmac}

-- the key's block for this hash function
abbrev pub key_block : Hash → List ℕ → List ℕ
key_block hash key = block_key (hash_of hash) (block_size hash) key

-- the key's block, each byte under this pad
abbrev pub padded_key : Hash → List ℕ → ℕ → List ℕ
padded_key hash key pad = xor_with (key_block hash key) (replicate (block_size hash) pad)

-- the state is this hash function's, and has taken in the message m
abbrev pub StateHolds : Hash → State → List ℕ → Type 0
StateHolds hash (Sha224 s) m = (hash ≡ H.Sha224) × Holds224 s m
StateHolds hash (Sha256 s) m = (hash ≡ H.Sha256) × Holds256 s m
StateHolds hash (Sha384 s) m = (hash ≡ H.Sha384) × Holds384 s m
StateHolds hash (Sha512 s) m = (hash ≡ H.Sha512) × Holds512 s m

-- k is this key for this hash function
pub record IsKeyOf (hash : Hash) (key : List ℕ) (k : HmacKey) : Type 0 where
  pub inner_begun : StateHolds hash k.inner (padded_key hash key 0x36)
  pub outer_begun : StateHolds hash k.outer (padded_key hash key 0x5c)

-- begun with this key, h has taken in this text
pub record HmacHolds (hash : Hash) (key : List ℕ) (h : Hmac) (text : List ℕ) : Type 0 where
  pub inner_holds : StateHolds hash h.inner (padded_key hash key 0x36 ++ text)
  pub outer_holds : StateHolds hash h.outer (padded_key hash key 0x5c)

-- the size of the digest that a state ends with
abbrev pub state_size : State → ℕ
state_size (Sha224 s) = 28
state_size (Sha256 s) = 32
state_size (Sha384 s) = 48
state_size (Sha512 s) = 64

-- the size of the whole code
abbrev pub full_size : Hmac → ℕ
full_size h = state_size h.outer
