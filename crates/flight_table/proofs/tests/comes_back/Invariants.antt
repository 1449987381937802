use Rattle.std.proofs.Common.{◌≡◌}
use Rattle.flight_table.specs.Call.{IsSameDesk}
use Rattle.flight_table.proofs.tests.comes_back.Given as goal

abbrev pub invariant-loop : goal.invariant-loop
invariant-loop g l = IsSameDesk l.initial.owner l.owner × (l.book ≡ l.initial.book)
