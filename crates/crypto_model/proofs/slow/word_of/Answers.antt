use Rattle.std.proofs.Common.{◌≡◌, ◌+◌, ◌*◌, arith, refl}
use Rattle.crypto_model.specs.Aes.{listed, word_of}
use Rattle.crypto_model.proofs.slow.word_of.Goals as goal

pub returns : goal.returns
unfolding word_of listed
returns c = let none : 4 * c.args.i + 0 ≡ 4 * c.args.i = omega arith in rw none refl
