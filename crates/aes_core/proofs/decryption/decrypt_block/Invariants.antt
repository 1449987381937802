use Rattle.std.proofs.Common.{◌≤◌}
use Rattle.aes_core.proofs.DecryptRounds.{IsBefore}
use Rattle.aes_core.proofs.decryption.decrypt_block.Given as goal

abbrev pub invariant-rounds : goal.invariant-rounds
invariant-rounds l = (1 ≤ l.round) × IsBefore l.words l.rounds l.fn.block l.round l.state
