use Rattle.std.proofs.Common.{◌∙◌, ap, rules}
use Rattle.crypto_model.specs.Gcm.{bytes_of}
use Rattle.gcm_core.proofs.HashedText.{sum_is}
use Rattle.gcm_core.proofs.hash.Ghash.finish.Goals as goal

pub returns : goal.returns
returns c = λ key text h whole. c.block.ensures ∙ ap bytes_of (sum_is key text c.args.self.now (search rules) h whole)
