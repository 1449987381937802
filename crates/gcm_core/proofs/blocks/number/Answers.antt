use Rattle.std.proofs.Common.{rules}
use Rattle.gcm_core.proofs.BlockNumbers.{bits-number}
use Rattle.gcm_core.proofs.blocks.number.Goals as goal

pub returns : goal.returns
returns c = bits-number c.args.block _ (search rules) (search rules) c.from_be_bytes.ensures
