use Rattle.std.proofs.Common.{◌≡◌, map, take}
use Rattle.packet_plan.specs.Asked.{transforms_of}
use Rattle.packet_plan.proofs.ready.table_of.Given as goal

abbrev pub invariant-loop-named : goal.invariant-loop-named
invariant-loop-named l = l.table ≡ map transforms_of (take l.named-index l.sessions)
