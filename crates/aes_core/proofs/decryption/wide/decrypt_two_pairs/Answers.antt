use Rattle.std.proofs.Common.{arith}
use Rattle.aes_core.proofs.WideInverse.{begins, goes_on, ends}
use Rattle.aes_core.proofs.decryption.wide.decrypt_two_pairs.Goals as goal

pub rounds-init : goal.rounds-init
rounds-init c = record {
  above = omega arith;
  first = begins c.args.words.now c.args.a _ c.args.rounds c.add_round_key-s.ensures;
  second = begins c.args.words.now c.args.b _ c.args.rounds c.add_round_key-t.ensures;
}

pub rounds-preserved : goal.rounds-preserved
rounds-preserved c = record {
  above = omega arith;
  first = goes_on c.args.words.now c.args.a _ _ c.args.rounds c.rounds.round c.rounds-test.true c.rounds.auto.round c.rounds.invariant.first c.inverse_round-s.ensures;
  second = goes_on c.args.words.now c.args.b _ _ c.args.rounds c.rounds.round c.rounds-test.true c.rounds.auto.round c.rounds.invariant.second c.inverse_round-t.ensures;
}

pub returns-clause-first : goal.returns-clause-first
returns-clause-first c = ends c.args.words.now c.args.a _ _ c.args.rounds c.rounds.round (omega arith) c.rounds.invariant.first c.last_round.ensures

pub returns-clause-second : goal.returns-clause-second
returns-clause-second c = ends c.args.words.now c.args.b _ _ c.args.rounds c.rounds.round (omega arith) c.rounds.invariant.second c.last_round-2.ensures
