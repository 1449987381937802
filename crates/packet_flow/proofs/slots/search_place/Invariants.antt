use Rattle.std.proofs.Common.{◌≡◌, ◌<◌, ◌≤◌, ◌-◌, ℕ, map, length}
use Rattle.std.specs.List.{slice_get}
use Rattle.std.specs.Prelude.{Some}
use Rattle.packet_flow.specs.Laid.{slot_number}
use Rattle.packet_flow.proofs.slots.search_place.Given as goal

abbrev pub invariant-loop-high : goal.invariant-loop-high
invariant-loop-high l = record {
  inside : l.high ≤ length l.slots.items;
  between : (i : ℕ) → slice_get (map slot_number l.slots.items) i ≡ Some l.number → (l.low ≤ i) × (i < l.high);
}

abbrev pub decreases-loop-high : goal.decreases-loop-high
decreases-loop-high l = l.high - l.low
