use Rattle.std.proofs.Common.{refl}
use Rattle.crypto_model.specs.Aes.{next_word}
use Rattle.crypto_model.proofs.slow.next_word.Goals as goal

pub returns : goal.returns
unfolding next_word
returns g c = rw (c.xor_words.ensures, c.word_of.ensures, c.temp.ensures) refl
