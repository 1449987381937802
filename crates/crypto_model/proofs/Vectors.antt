-- The definitions, computed on the standards' vectors.
use Rattle.std.proofs.Common.{◌≡◌, ◌++◌, [], drop, refl}
use Rattle.std.specs.List.{range_with_len}
use Rattle.std.specs.Prelude.{replicate}
use Rattle.crypto_model.specs.Block.{block}
use Rattle.crypto_model.specs.Field.{product, remainder, times, inverse_below, inverse, of_bits, sub_byte}
use Rattle.crypto_model.specs.Aes.{listed, sub_bytes, shift_rows, mix_columns, add_round_key, power, word_of, rot_word, sub_word, xor_words, temp, next_word, schedule, expanded, rounds, cipher_with, cipher, unsub_below, inverse_sub_bytes, inverse_shift_rows, inverse_mix_columns, inverse_rounds, inverse_cipher_with, inverse_cipher}
use Rattle.crypto_model.specs.Modes.{xor_with, cut, blocks, counter_of, counter_block, ctr_from, ctr, cbc_encrypt_from, cbc_encrypt, cbc_decrypt_from, cbc_decrypt}
use Rattle.crypto_model.specs.Gcm.{bits_of, number_of, bytes_of, times_x, block_product, ghash_from, padded, hashed, gctr_from, gcm_text, gcm_tag}

pub aes_128_vector : cipher (range_with_len 0 16) (block 0x00112233445566778899aabbccddeeff) ≡ block 0x69c4e0d86a7b0430d8cdb78070b4c55a
unfolding product remainder times inverse_below inverse of_bits sub_byte listed sub_bytes shift_rows mix_columns add_round_key power word_of rot_word sub_word xor_words temp next_word schedule expanded rounds cipher_with cipher
aes_128_vector = refl

pub aes_192_vector : cipher (range_with_len 0 24) (block 0x00112233445566778899aabbccddeeff) ≡ block 0xdda97ca4864cdfe06eaf70a0ec0d7191
unfolding product remainder times inverse_below inverse of_bits sub_byte listed sub_bytes shift_rows mix_columns add_round_key power word_of rot_word sub_word xor_words temp next_word schedule expanded rounds cipher_with cipher
aes_192_vector = refl

pub aes_256_vector : cipher (range_with_len 0 32) (block 0x00112233445566778899aabbccddeeff) ≡ block 0x8ea2b7ca516745bfeafc49904b496089
unfolding product remainder times inverse_below inverse of_bits sub_byte listed sub_bytes shift_rows mix_columns add_round_key power word_of rot_word sub_word xor_words temp next_word schedule expanded rounds cipher_with cipher
aes_256_vector = refl

pub back_128_vector : inverse_cipher (range_with_len 0 16) (block 0x69c4e0d86a7b0430d8cdb78070b4c55a) ≡ block 0x00112233445566778899aabbccddeeff
unfolding product remainder times inverse_below inverse of_bits sub_byte listed sub_bytes shift_rows mix_columns add_round_key power word_of rot_word sub_word xor_words temp next_word schedule expanded rounds cipher_with cipher unsub_below inverse_sub_bytes inverse_shift_rows inverse_mix_columns inverse_rounds inverse_cipher_with inverse_cipher
back_128_vector = refl

pub back_192_vector : inverse_cipher (range_with_len 0 24) (block 0xdda97ca4864cdfe06eaf70a0ec0d7191) ≡ block 0x00112233445566778899aabbccddeeff
unfolding product remainder times inverse_below inverse of_bits sub_byte listed sub_bytes shift_rows mix_columns add_round_key power word_of rot_word sub_word xor_words temp next_word schedule expanded rounds cipher_with cipher unsub_below inverse_sub_bytes inverse_shift_rows inverse_mix_columns inverse_rounds inverse_cipher_with inverse_cipher
back_192_vector = refl

pub back_256_vector : inverse_cipher (range_with_len 0 32) (block 0x8ea2b7ca516745bfeafc49904b496089) ≡ block 0x00112233445566778899aabbccddeeff
unfolding product remainder times inverse_below inverse of_bits sub_byte listed sub_bytes shift_rows mix_columns add_round_key power word_of rot_word sub_word xor_words temp next_word schedule expanded rounds cipher_with cipher unsub_below inverse_sub_bytes inverse_shift_rows inverse_mix_columns inverse_rounds inverse_cipher_with inverse_cipher
back_256_vector = refl

pub cbc_vector : cbc_encrypt (cipher (block 0x2b7e151628aed2a6abf7158809cf4f3c)) (range_with_len 0 16) (block 0x6bc1bee22e409f96e93d7e117393172a) ≡ block 0x7649abac8119b246cee98e9b12e9197d
unfolding product remainder times inverse_below inverse of_bits sub_byte listed sub_bytes shift_rows mix_columns add_round_key power word_of rot_word sub_word xor_words temp next_word schedule expanded rounds cipher_with cipher xor_with cut blocks cbc_encrypt_from cbc_encrypt
cbc_vector = refl

pub cbc_two_vector : cbc_encrypt (cipher (block 0x2b7e151628aed2a6abf7158809cf4f3c)) (range_with_len 0 16) (block 0x6bc1bee22e409f96e93d7e117393172a ++ block 0xae2d8a571e03ac9c9eb76fac45af8e51)
    ≡ block 0x7649abac8119b246cee98e9b12e9197d ++ block 0x5086cb9b507219ee95db113a917678b2
unfolding product remainder times inverse_below inverse of_bits sub_byte listed sub_bytes shift_rows mix_columns add_round_key power word_of rot_word sub_word xor_words temp next_word schedule expanded rounds cipher_with cipher xor_with cut blocks cbc_encrypt_from cbc_encrypt
cbc_two_vector = refl

pub cbc_back_vector : cbc_decrypt (inverse_cipher (block 0x2b7e151628aed2a6abf7158809cf4f3c)) (range_with_len 0 16) (block 0x7649abac8119b246cee98e9b12e9197d) ≡ block 0x6bc1bee22e409f96e93d7e117393172a
unfolding product remainder times inverse_below inverse of_bits sub_byte listed sub_bytes shift_rows mix_columns add_round_key power word_of rot_word sub_word xor_words temp next_word schedule expanded rounds cipher_with cipher unsub_below inverse_sub_bytes inverse_shift_rows inverse_mix_columns inverse_rounds inverse_cipher_with inverse_cipher xor_with cut blocks cbc_decrypt_from cbc_decrypt
cbc_back_vector = refl

pub ctr_vector : ctr (cipher (block 0x2b7e151628aed2a6abf7158809cf4f3c)) (block 0xf0f1f2f3f4f5f6f7f8f9fafbfcfdfeff) (block 0x6bc1bee22e409f96e93d7e117393172a) ≡ block 0x874d6191b620e3261bef6864990db6ce
unfolding product remainder times inverse_below inverse of_bits sub_byte listed sub_bytes shift_rows mix_columns add_round_key power word_of rot_word sub_word xor_words temp next_word schedule expanded rounds cipher_with cipher xor_with cut blocks counter_of counter_block ctr_from ctr
ctr_vector = refl

pub ctr_carry_vector : drop 16 (ctr (cipher (replicate 16 0)) (replicate 16 255) (replicate 32 0)) ≡ block 0x66e94bd4ef8a2c3b884cfa59ca342b2e
unfolding product remainder times inverse_below inverse of_bits sub_byte listed sub_bytes shift_rows mix_columns add_round_key power word_of rot_word sub_word xor_words temp next_word schedule expanded rounds cipher_with cipher xor_with cut blocks counter_of counter_block ctr_from ctr
ctr_carry_vector = refl

pub gcm_empty_vector : gcm_tag (cipher (replicate 16 0)) (replicate 12 0) [] [] ≡ block 0x58e2fccefa7e3061367f1d57a4e7455a
unfolding product remainder times inverse_below inverse of_bits sub_byte listed sub_bytes shift_rows mix_columns add_round_key power word_of rot_word sub_word xor_words temp next_word schedule expanded rounds cipher_with cipher xor_with cut blocks bits_of number_of bytes_of times_x block_product ghash_from padded hashed gcm_tag
gcm_empty_vector = refl

pub gcm_data_vector : gcm_tag (cipher (replicate 16 0)) (replicate 12 0) (range_with_len 0 20) [] ≡ block 0x6cb71d8230f1c75a6bbc9f23ad201c0b
unfolding product remainder times inverse_below inverse of_bits sub_byte listed sub_bytes shift_rows mix_columns add_round_key power word_of rot_word sub_word xor_words temp next_word schedule expanded rounds cipher_with cipher xor_with cut blocks bits_of number_of bytes_of times_x block_product ghash_from padded hashed gcm_tag
gcm_data_vector = refl

pub gcm_text_vector : gcm_text (cipher (replicate 16 0)) (replicate 12 0) (replicate 16 0) ≡ block 0x0388dace60b6a392f328c2b971b2fe78
unfolding product remainder times inverse_below inverse of_bits sub_byte listed sub_bytes shift_rows mix_columns add_round_key power word_of rot_word sub_word xor_words temp next_word schedule expanded rounds cipher_with cipher xor_with cut blocks gctr_from gcm_text
gcm_text_vector = refl

pub gcm_tag_vector : gcm_tag (cipher (replicate 16 0)) (replicate 12 0) [] (block 0x0388dace60b6a392f328c2b971b2fe78) ≡ block 0xab6e47d42cec13bdf53a67b21257bddf
unfolding product remainder times inverse_below inverse of_bits sub_byte listed sub_bytes shift_rows mix_columns add_round_key power word_of rot_word sub_word xor_words temp next_word schedule expanded rounds cipher_with cipher xor_with cut blocks bits_of number_of bytes_of times_x block_product ghash_from padded hashed gcm_tag
gcm_tag_vector = refl
