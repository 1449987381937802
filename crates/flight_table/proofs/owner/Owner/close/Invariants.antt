use Rattle.std.proofs.Common.{◌≡◌, ◌++◌, All, List}
use Rattle.flight_table.specs.View.{times}
use Rattle.flight_table.specs.Call.{HoldsAll, Desk}
use Rattle.flight_table.proofs.owner.Owner.close.Given as goal

abbrev pub invariant-loop-hand : goal.invariant-loop-hand
invariant-loop-hand l = record {
  table : All (λ h. h.table ≡ l.self.table) l.hands.items;
  all : HoldsAll l.self.view l.self.slots;
  same : l.self.view.collected ≡ l.fn.self.view.collected;
  met : (more : List Desk) × (l.fn.hands.items ≡ l.hands.items ++ more) × All (λ h. h.view.finished ≡ times h.view.worker l.fn.self.view.collected) more;
}

abbrev pub decreases-loop-hand : goal.decreases-loop-hand
decreases-loop-hand l = goal.left-loop-hand l
