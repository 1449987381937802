use Rattle.std.proofs.Common.{refl}
use Rattle.crypto_model.specs.Aes.{listed, sub_word}
use Rattle.crypto_model.proofs.slow.sub_word.Goals as goal

pub returns : goal.returns
unfolding sub_word listed
returns g c = rw (c.sub_byte.ensures, c.sub_byte-2.ensures, c.sub_byte-3.ensures, c.sub_byte-4.ensures) refl
