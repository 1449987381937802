use Rattle.std.proofs.Common.{◌≡◌, ◌≤◌}
use Rattle.std.specs.Vec.{vec_len, vec_capacity}
use Rattle.std.specs.List.{All}
use Rattle.event_adapter.specs.Inside.{IsIdle}
use Rattle.event_adapter.proofs.adapter.make_idle.Given as goal

abbrev pub invariant-loop-i : goal.invariant-loop-i
invariant-loop-i g l = record {
  len : vec_len l.idle ≡ l._i;
  capacity : 8 ≤ vec_capacity l.idle;
  idle : All IsIdle l.idle.items;
}
