use Rattle.std.proofs.Common.{refl, arith}
use Rattle.gcm_core.proofs.FedPieces.{feeds_round}
use Rattle.gcm_core.proofs.stream.KeyStream.go_round.Goals as goal

pub returns-clause-fed : goal.returns-clause-fed
returns-clause-fed c = feeds_round c.args.self.now _ refl refl (omega (arith, c.if-self-gt0.false)) refl (rw c.iv_block.ensures.block at c.new-self.ensures)
