use Rattle.std.proofs.Common.{refl, sym, ◌∙◌, ap}
use Rattle.crypto_model.specs.Aes.{cipher}
use Rattle.aes_modes.specs.Chaining.{last_block}
use Rattle.aes_modes.proofs.CbcBlocks.{encrypt-none, last_block-none}
use Rattle.aes_modes.proofs.cbc.CbcEnc.new.Goals as goal

pub returns : goal.returns
returns c =
    record { same_key = refl; whole = refl; last = sym (ap (last_block c.args.iv) (encrypt-none (cipher c.args.key.now) c.args.iv) ∙ last_block-none c.args.iv) }
