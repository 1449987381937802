use Rattle.std.proofs.Common.{◌≡◌, map, take}
use Rattle.packet_plan.specs.Ready.{ready_of}
use Rattle.packet_plan.proofs.session_way.SessionWay.all_of.Given as goal

abbrev pub invariant-loop-session : goal.invariant-loop-session
invariant-loop-session l = l.ways.items ≡ map ready_of (take l.session-index l.sessions)
