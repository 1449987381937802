use Rattle.std.proofs.Common.{◌≡◌, ◌==◌, take, false}
use Rattle.std.specs.List.{list_any}
use Rattle.event_adapter.specs.Inside.{ids}
use Rattle.event_adapter.proofs.steps.find.Given as goal

abbrev pub invariant-loop-i : goal.invariant-loop-i
invariant-loop-i g l = record {
  none : list_any (λ x. x == l.id) (take l.i (ids l.pairs.items)) ≡ false;
}
