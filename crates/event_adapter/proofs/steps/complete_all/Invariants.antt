use Rattle.std.proofs.Common.{◌≡◌, ◌≤◌, length, take, drop}
use Rattle.std.specs.Vec.{vec_len, vec_capacity}
use Rattle.dev_core.specs.Burst.{room_of, with_ops}
use Rattle.event_adapter.specs.Steps.{Along, Completed}
use Rattle.event_adapter.proofs.steps.complete_all.Given as goal

abbrev pub invariant-loop-i : goal.invariant-loop-i
invariant-loop-i g l = record {
  step : Along (Completed g.D.Driver l.kind) (room_of l.initial.out) (take l.i l.initial.pairs.items) (take l.i l.pairs.items) (drop (length l.initial.out.ops) l.out.ops);
  rest : drop l.i l.pairs.items ≡ drop l.i l.initial.pairs.items;
  kept : l.out ≡ with_ops (drop (length l.initial.out.ops) l.out.ops) l.initial.out;
  count : length l.initial.out.ops ≤ length l.out.ops;
  scratch : l.scratch ≡ l.initial.scratch;
  len : vec_len l.pairs ≡ vec_len l.initial.pairs;
  capacity : vec_capacity l.pairs ≡ vec_capacity l.initial.pairs;
}
