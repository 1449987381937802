use Rattle.std.proofs.Common.{arith}
use Rattle.aes_core.proofs.DecryptRounds.{begins, goes_on, ends}
use Rattle.aes_core.proofs.decryption.decrypt_block.Goals as goal

pub rounds-init : goal.rounds-init
rounds-init c = (omega arith, begins c.args.words.now c.args.block _ c.args.rounds c.add_round_key-state.ensures)

pub rounds-preserved : goal.rounds-preserved
rounds-preserved c = (
  omega arith,
  goes_on c.args.words.now c.args.block _ _ c.args.rounds c.rounds.round c.rounds-test.true c.rounds.auto.round c.rounds.invariant.1 c.inverse_round-state.ensures,
)

pub returns : goal.returns
returns c = ends c.args.words.now c.args.block _ _ c.args.rounds c.rounds.round (omega arith) c.rounds.invariant.1 c.last_round.ensures
