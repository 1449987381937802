use Rattle.std.proofs.Common.{refl}
use Rattle.crypto_model.specs.Aes.{cipher}
use Rattle.crypto_model.proofs.slow.slow_encrypt.Goals as goal

pub returns-clause-ok : goal.returns-clause-ok
unfolding cipher
returns-clause-ok c = rw (c.cipher_with.ensures, c.expanded-w.ensures.schedule) refl
