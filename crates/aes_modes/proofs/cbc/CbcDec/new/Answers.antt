use Rattle.std.proofs.Common.{refl, sym}
use Rattle.aes_modes.proofs.CbcBlocks.{last_block-none}
use Rattle.aes_modes.proofs.cbc.CbcDec.new.Goals as goal

pub returns : goal.returns
returns c = record { same_key = refl; whole = refl; last = sym (last_block-none c.args.iv) }
