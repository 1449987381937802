use Rattle.std.proofs.Common.{arith}
use Rattle.crypto_model.specs.Aes.{sub_bytes}
use Rattle.crypto_model.proofs.Listed.{listed_all}
use Rattle.crypto_model.proofs.slow.sub_bytes.Goals as goal

pub returns : goal.returns
unfolding sub_bytes
returns c = listed_all 16 _ _ c.bytes.i c.bytes.invariant.0 c.bytes.invariant.1 (omega arith)
