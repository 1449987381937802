use Rattle.crypto_model.proofs.Vectors.{cbc_two_vector, cbc_vector, cbc_back_vector, ctr_vector, ctr_carry_vector}
use Rattle.crypto_model.proofs.laws.mode_vectors.Goals as goal

pub returns-clause-cbc : goal.returns-clause-cbc
returns-clause-cbc c = cbc_vector

pub returns-clause-cbc_back : goal.returns-clause-cbc_back
returns-clause-cbc_back c = cbc_back_vector

pub returns-clause-ctr : goal.returns-clause-ctr
returns-clause-ctr c = ctr_vector

pub returns-clause-ctr_carry : goal.returns-clause-ctr_carry
returns-clause-ctr_carry c = ctr_carry_vector

pub returns-clause-cbc_two : goal.returns-clause-cbc_two
returns-clause-cbc_two c = cbc_two_vector
