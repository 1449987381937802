use Rattle.std.proofs.Common.{◌≡◌, drop}
use Rattle.mbuf_chain.specs.Chain.{packet_of}
use Rattle.packet_plan.specs.Asked.{chosen_from}
use Rattle.packet_plan.proofs.choice.choose.Given as goal

abbrev pub invariant-loop-i : goal.invariant-loop-i
invariant-loop-i l = chosen_from l.i (drop l.i l.rules) l.otherwise (packet_of l.packet) ≡ chosen_from 0 l.rules l.otherwise (packet_of l.packet)
