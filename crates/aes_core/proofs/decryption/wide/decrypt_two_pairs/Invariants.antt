use Rattle.std.proofs.Common.{◌≤◌}
use Rattle.aes_core.proofs.WideInverse.{IsPairBefore}
use Rattle.aes_core.proofs.decryption.wide.decrypt_two_pairs.Given as goal

abbrev pub invariant-rounds : goal.invariant-rounds
invariant-rounds l = record {
  above : 1 ≤ l.round;
  first : IsPairBefore l.words l.rounds l.fn.a l.round l.s;
  second : IsPairBefore l.words l.rounds l.fn.b l.round l.t;
}
