use Rattle.crypto_model.proofs.HmacVectors.{long_key_vector, sha512_vector, short_key_vector}
use Rattle.crypto_model.proofs.laws.hmac_vectors.Goals as goal

pub returns-clause-short_key : goal.returns-clause-short_key
returns-clause-short_key c = short_key_vector

pub returns-clause-long_key : goal.returns-clause-long_key
returns-clause-long_key c = long_key_vector

pub returns-clause-sha512 : goal.returns-clause-sha512
returns-clause-sha512 c = sha512_vector
