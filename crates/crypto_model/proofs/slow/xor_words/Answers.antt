use Rattle.std.proofs.Common.{refl}
use Rattle.crypto_model.specs.Aes.{listed, xor_words}
use Rattle.crypto_model.proofs.slow.xor_words.Goals as goal

pub returns : goal.returns
unfolding xor_words listed
returns c = refl
