use Rattle.std.proofs.Common.{◌≡◌, ◌∙◌, ap, length}
use Rattle.aes_core.proofs.Sliced.{length-key_of}
use Rattle.aes_core.proofs.WideInverse.{keyed_pair}
use Rattle.aes_core.proofs.decryption.wide.add_round_key.Goals as goal

pub returns : goal.returns
returns c =
    let k = c.round_key.result in
    let long : length k ≡ 16 = ap length c.round_key.ensures ∙ length-key_of c.args.words.now c.args.round c.told-words c.requires in
    keyed_pair c.args.words.now c.args.pair k _ c.args.round c.fits-pair.0 long c.round_key.ensures c.twice.ensures
