use Rattle.std.proofs.Common.{◌≡◌, ◌∙◌, length, refl, sym, ap, rules, arith}
use Rattle.crypto_model.specs.Aes.{inverse_cipher}
use Rattle.aes_modes.proofs.CbcBlocks.{decrypt-one, last_block-one}
use Rattle.aes_modes.proofs.cbc.CbcDec.block.Goals as goal

pub returns : goal.returns
returns c =
    let state = c.args.self.now in
    let block = c.args.block.now in
    let d = inverse_cipher state.key.now in
    let wide : length state.last ≡ 16 = search rules in
    let kept : c.copy_from_slice.new.self ≡ block = c.copy_from_slice.ensures.after in
    let plain : c.copy_from_slice-2.new.self ≡ d block = c.copy_from_slice-2.ensures.after ∙ c.decrypt.ensures ∙ ap d kept in
    record {
      same_key = refl;
      made = c.xor_block.ensures ∙ rw plain (sym (decrypt-one d state.last block c.requires));
      last = kept ∙ sym (last_block-one state.last block (omega (arith, wide, c.requires)));
    }
