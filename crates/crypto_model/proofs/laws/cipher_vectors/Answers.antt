use Rattle.crypto_model.proofs.Vectors.{back_256_vector, back_192_vector, aes_128_vector, aes_192_vector, aes_256_vector, back_128_vector}
use Rattle.crypto_model.proofs.laws.cipher_vectors.Goals as goal

pub returns-clause-aes_128 : goal.returns-clause-aes_128
returns-clause-aes_128 c = aes_128_vector

pub returns-clause-aes_192 : goal.returns-clause-aes_192
returns-clause-aes_192 c = aes_192_vector

pub returns-clause-aes_256 : goal.returns-clause-aes_256
returns-clause-aes_256 c = aes_256_vector

pub returns-clause-back_128 : goal.returns-clause-back_128
returns-clause-back_128 c = back_128_vector

pub returns-clause-back_192 : goal.returns-clause-back_192
returns-clause-back_192 c = back_192_vector

pub returns-clause-back_256 : goal.returns-clause-back_256
returns-clause-back_256 c = back_256_vector
