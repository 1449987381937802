use Rattle.std.proofs.Common.{◌≡◌, ◌+◌, ◌≤◌, ◌++◌, vec_len, vec_capacity}
use Rattle.dev_core.specs.Burst.{front_log}
use Rattle.dev_core.proofs.log.note.Given as goal

abbrev pub invariant-loop-i : goal.invariant-loop-i
invariant-loop-i g l = record {
  items : l.log.items ≡ l.initial.log.items ++ front_log l.i l.burst;
  len : vec_len l.log ≡ vec_len l.initial.log + l.i;
  capacity : vec_capacity l.initial.log ≤ vec_capacity l.log;
}
