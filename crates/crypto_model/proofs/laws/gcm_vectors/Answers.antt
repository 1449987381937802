use Rattle.crypto_model.proofs.Vectors.{gcm_data_vector, gcm_empty_vector, gcm_text_vector, gcm_tag_vector}
use Rattle.crypto_model.proofs.laws.gcm_vectors.Goals as goal

pub returns-clause-tag_of_no_text : goal.returns-clause-tag_of_no_text
returns-clause-tag_of_no_text c = gcm_empty_vector

pub returns-clause-text : goal.returns-clause-text
returns-clause-text c = gcm_text_vector

pub returns-clause-tag : goal.returns-clause-tag
returns-clause-tag c = gcm_tag_vector

pub returns-clause-tag_of_data : goal.returns-clause-tag_of_data
returns-clause-tag_of_data c = gcm_data_vector
