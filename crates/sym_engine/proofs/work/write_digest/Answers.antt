use Rattle.std.proofs.Common.{sym}
use Rattle.mbuf_chain.proofs.Chains.{with_packet-own}
use Rattle.sym_engine.proofs.work.write_digest.Goals as goal

pub returns-in-OwnField-clause-chain : goal.returns-in-OwnField-clause-chain
returns-in-OwnField-clause-chain c = rw c.in-OwnField.is (sym (with_packet-own c.args.chain.now))
