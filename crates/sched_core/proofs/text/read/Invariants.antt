use Rattle.std.proofs.Common.{◌≡◌, ◌+◌, length}
use Rattle.sched_core.specs.Text.{IsLegalSoFar, fields_of, read_fields, sched_of}
use Rattle.sched_core.proofs.text.read.Given as goal

abbrev pub invariant-loop-next : goal.invariant-loop-next
invariant-loop-next l = record {
  read : read_fields (length l.fn.text) l.at l.seen (fields_of l.left) ≡ sched_of l.fn.text;
  legal : IsLegalSoFar l.seen;
  at : l.at + length l.left ≡ length l.fn.text;
}

abbrev pub decreases-loop-next : goal.decreases-loop-next
decreases-loop-next l = length l.left
