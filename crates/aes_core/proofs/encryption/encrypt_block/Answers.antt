use Rattle.std.proofs.Common.{arith}
use Rattle.aes_core.proofs.Rounds.{begins, goes_on, ends}
use Rattle.aes_core.proofs.encryption.encrypt_block.Goals as goal

pub rounds-init : goal.rounds-init
rounds-init c = begins c.args.words.now c.args.block _ _ c.round_key.ensures c.first_key-y.ensures

pub rounds-preserved : goal.rounds-preserved
rounds-preserved c =
    goes_on c.args.words.now c.args.inner.now c.args.block _ c.rounds.y _ c.rounds.r c.rounds.auto.r c.requires.inner c.round_key-in-rounds.ensures c.rounds.invariant c.round-y.ensures

pub returns : goal.returns
returns c = ends c.args.words.now c.args.block _ c.rounds.y _ c.rounds.r c.args.rounds (omega arith) c.round_key-2.ensures c.rounds.invariant c.last_round.ensures
