-- HMAC, computed on vectors of RFC 4231.
use Rattle.std.proofs.Common.{◌≡◌, ◌++◌, refl}
use Rattle.std.specs.Prelude.{codes, replicate}
use Rattle.sha2.specs.Sha256.{first_words, schedule, rounds, compress, hash_after, digest_bytes, sha256}
use Rattle.sha2.specs.Sha512.{first_words as first_words_512, schedule as schedule_512, rounds as rounds_512, compress as compress_512, hash_after as hash_after_512, digest_bytes as digest_bytes_512, sha512}
use Rattle.crypto_model.specs.declared.plain.Hash.TheVariants.{Sha256, Sha512}
use Rattle.crypto_model.specs.Block.{block}
use Rattle.crypto_model.specs.Modes.{xor_with}
use Rattle.crypto_model.specs.Hmac.{block_key, filled, hmac, hmac_of}

pub short_key_vector : hmac_of Sha256 (codes "Jefe") (codes "what do ya want for nothing?") ≡ block 0x5bdcc146bf60754e6a042426089575c7 ++ block 0x5a003f089d2739839dec58b964ec3843
unfolding filled block_key hmac xor_with first_words schedule rounds compress hash_after digest_bytes sha256
short_key_vector = refl

pub long_key_vector : hmac_of Sha256 (replicate 131 0xaa) (codes "Test Using Larger Than Block-Size Key - Hash Key First")
    ≡ block 0x60e431591ee0b67f0d8a26aacbf5b77f ++ block 0x8e0bc6213728c5140546040f0ee37f54
unfolding filled block_key hmac xor_with first_words schedule rounds compress hash_after digest_bytes sha256
long_key_vector = refl

pub sha512_vector : hmac_of Sha512 (codes "Jefe") (codes "what do ya want for nothing?")
    ≡ block 0x164b7a7bfcf819e2e395fbe73b56e0a3 ++ block 0x87bd64222e831fd610270cd7ea250554 ++ block 0x9758bf75c05a994a6d034f65f8f0e6fd ++ block 0xcaeab1a34d4a6b4b636e070a38bce737
unfolding filled block_key hmac xor_with first_words_512 schedule_512 rounds_512 compress_512 hash_after_512 digest_bytes_512 sha512
sha512_vector = refl
