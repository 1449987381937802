use Rattle.aes_core.proofs.WideInverse.{last_pair}
use Rattle.aes_core.proofs.decryption.wide.last_round.Goals as goal

pub returns : goal.returns
returns c = last_pair c.args.words.now c.args.pair _ _ _ 0 c.inverse_shift_rows.ensures c.inverse_sub_bytes.ensures c.add_round_key.ensures
