-- What a walk rests on: units that a block can hold, and that nothing comes out of no text.
use Rattle.std.proofs.Common.{◌≡◌, ◌<◌, ◌≤◌, ℕ, List, [], refl, arith}
use Rattle.crypto_model.specs.Aes.{cipher, inverse_cipher}
use Rattle.crypto_model.specs.Modes.{blocks, cut, ctr, ctr_from, cbc_encrypt, cbc_encrypt_from, cbc_decrypt, cbc_decrypt_from}
use Rattle.crypto_model.specs.Gcm.{gctr_from, gcm_text}

pub one_small : (0 < 1) × (1 ≤ 16)
one_small = (omega arith, omega arith)

pub block_small : (0 < 16) × (16 ≤ 16)
block_small = (omega arith, omega arith)

pub ctr_of_nothing : (key iv : List ℕ) → ctr (cipher key) iv [] ≡ []
unfolding ctr ctr_from blocks cut
ctr_of_nothing key iv = refl

pub cbc_encrypt_of_nothing : (key iv : List ℕ) → cbc_encrypt (cipher key) iv [] ≡ []
unfolding cbc_encrypt cbc_encrypt_from blocks cut
cbc_encrypt_of_nothing key iv = refl

pub cbc_decrypt_of_nothing : (key iv : List ℕ) → cbc_decrypt (inverse_cipher key) iv [] ≡ []
unfolding cbc_decrypt cbc_decrypt_from blocks cut
cbc_decrypt_of_nothing key iv = refl

pub gcm_of_nothing : (key iv : List ℕ) → gcm_text (cipher key) iv [] ≡ []
unfolding gcm_text gctr_from blocks cut
gcm_of_nothing key iv = refl
