use Rattle.std.proofs.Common.{◌≡◌, ◌≤◌, ◌+◌, ◌^◌, length}
use Rattle.session_file.specs.Text.{lines_of}
use Rattle.session_file.specs.Plan.{plan_of, read_from}
use Rattle.session_file.proofs.reading.parse.Given as goal

abbrev pub invariant-loop-left : goal.invariant-loop-left
invariant-loop-left l = record {
  read : read_from l.line l.draft (lines_of l.left) ≡ plan_of l.fn.bytes;
  few : length l.draft.sessions ≤ 1024;
  small : l.line + length l.left ≤ 2 ^ 20 + 1;
}

abbrev pub decreases-loop-left : goal.decreases-loop-left
decreases-loop-left l = length l.left
