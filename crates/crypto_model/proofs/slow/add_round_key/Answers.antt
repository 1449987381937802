use Rattle.std.proofs.Common.{arith}
use Rattle.crypto_model.specs.Aes.{add_round_key}
use Rattle.crypto_model.proofs.Listed.{listed_all}
use Rattle.crypto_model.proofs.slow.add_round_key.Goals as goal

pub returns : goal.returns
unfolding add_round_key
returns c = listed_all 16 _ _ c.bytes.i c.bytes.invariant.0 c.bytes.invariant.1 (omega arith)
