use Rattle.std.proofs.Common.{◌≡◌, ◌≤◌, min, drop}
use Rattle.event_adapter.specs.Inside.{least_room}
use Rattle.event_adapter.proofs.dealing.least_in_room.Given as goal

abbrev pub invariant-loop-i : goal.invariant-loop-i
invariant-loop-i g l = record {
  least : min l.least (least_room (drop l.i l.pairs.items)) ≡ least_room l.pairs.items;
  within : l.least ≤ 32;
}
