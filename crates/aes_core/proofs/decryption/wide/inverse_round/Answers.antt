use Rattle.aes_core.proofs.WideInverse.{round_pair}
use Rattle.aes_core.proofs.decryption.wide.inverse_round.Goals as goal

pub returns : goal.returns
returns c =
    round_pair c.args.words.now c.args.pair _ _ _ _ c.args.round c.inverse_shift_rows.ensures c.inverse_sub_bytes-pair.ensures c.add_round_key.ensures c.inverse_mix_columns.ensures
