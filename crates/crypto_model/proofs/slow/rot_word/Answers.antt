use Rattle.std.proofs.Common.{refl}
use Rattle.crypto_model.specs.Aes.{listed, rot_word}
use Rattle.crypto_model.proofs.slow.rot_word.Goals as goal

pub returns : goal.returns
unfolding rot_word listed
returns c = refl
