use Rattle.std.proofs.Common.{sym, ◌∙◌}
use Rattle.gcm_core.proofs.BlockNumbers.{bytes-number}
use Rattle.gcm_core.proofs.blocks.block.Goals as goal

pub returns : goal.returns
returns c = c.to_be_bytes.ensures ∙ sym (bytes-number c.args.number)
