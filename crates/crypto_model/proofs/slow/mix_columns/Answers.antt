use Rattle.std.proofs.Common.{arith}
use Rattle.crypto_model.specs.Aes.{mix_columns}
use Rattle.crypto_model.proofs.Listed.{listed_all}
use Rattle.crypto_model.proofs.slow.mix_columns.Goals as goal

pub returns : goal.returns
unfolding mix_columns
returns c = listed_all 16 _ _ c.bytes.i c.bytes.invariant.0 c.bytes.invariant.1 (omega arith)
