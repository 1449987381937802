use Rattle.std.proofs.Common.{◌≡◌, ◌∙◌, length, refl, sym, ap, rules}
use Rattle.crypto_model.specs.Aes.{cipher}
use Rattle.crypto_model.specs.Modes.{xor_with}
use Rattle.aes_modes.proofs.KeyStream.{length-cipher}
use Rattle.aes_modes.proofs.CbcBlocks.{encrypt-one, last_block-one}
use Rattle.aes_modes.proofs.cbc.CbcEnc.block.Goals as goal

pub returns : goal.returns
returns c =
    let state = c.args.self.now in
    let e = cipher state.key.now in
    let block = c.args.block.now in
    let wide : length state.last ≡ 16 = search rules in
    let made : c.encrypt.new.block ≡ e (xor_with block state.last) = c.encrypt.ensures ∙ ap e (c.copy_from_slice.ensures.after ∙ c.xor_block.ensures) in
    let out : c.copy_from_slice-2.new.self ≡ c.encrypt.new.block = c.copy_from_slice-2.ensures.after in
    record {
      same_key = refl;
      made = out ∙ made ∙ sym (encrypt-one e state.last block c.requires);
      last = sym out ∙ sym (last_block-one state.last c.copy_from_slice-2.new.self (ap length (out ∙ made) ∙ length-cipher state.key.now (xor_with block state.last) ∙ sym wide));
    }
