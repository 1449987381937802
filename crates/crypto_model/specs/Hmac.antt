-- HMAC (FIPS 198-1) over any hash function, given the size of its blocks in bytes, and the functions
-- of FIPS 180-4 that it is used with.
use Rattle.std.specs.Prelude.{ℕ, ◌-◌, List, ◌++◌, length, replicate, nat_lt, if◌then◌else◌}
use Rattle.sha2.specs.Sha256.{sha224, sha256}
use Rattle.sha2.specs.Sha512.{sha384, sha512}
use Rattle.crypto_model.specs.declared.plain.Hash.{Hash}
use Rattle.crypto_model.specs.declared.plain.Hash.TheVariants.{Sha224, Sha256, Sha384, Sha512}
use Rattle.crypto_model.specs.Modes.{xor_with}

-- with zeros up to a block
unfoldable pub filled : ℕ → List ℕ → List ℕ
filled size k = k ++ replicate (size - length k) 0

-- K0: the key with zeros up to a block, hashed first where it is longer than a block (4, steps 1 to 3)
unfoldable pub block_key : (List ℕ → List ℕ) → ℕ → List ℕ → List ℕ
block_key hash size key = filled size (if nat_lt size (length key) then hash key else key)

-- the inner and the outer pad (2.3)
abbrev pub ipad : ℕ → List ℕ
ipad size = replicate size 0x36

abbrev pub opad : ℕ → List ℕ
opad size = replicate size 0x5c

-- H((K0 xor opad) || H((K0 xor ipad) || text)) (4, steps 4 to 9)
unfoldable pub hmac : (List ℕ → List ℕ) → ℕ → List ℕ → List ℕ → List ℕ
hmac hash size key text =
    let k0 = block_key hash size key in
    hash (xor_with k0 (opad size) ++ hash (xor_with k0 (ipad size) ++ text))

abbrev pub hash_of : Hash → List ℕ → List ℕ
hash_of Sha224 m = sha224 m
hash_of Sha256 m = sha256 m
hash_of Sha384 m = sha384 m
hash_of Sha512 m = sha512 m

-- the size of a block, in bytes
abbrev pub block_size : Hash → ℕ
block_size Sha224 = 64
block_size Sha256 = 64
block_size Sha384 = 128
block_size Sha512 = 128

-- the size of a digest, in bytes
abbrev pub digest_size : Hash → ℕ
digest_size Sha224 = 28
digest_size Sha256 = 32
digest_size Sha384 = 48
digest_size Sha512 = 64

-- HMAC with one of the four
abbrev pub hmac_of : Hash → List ℕ → List ℕ → List ℕ
hmac_of hash key text = hmac (hash_of hash) (block_size hash) key text
