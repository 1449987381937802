use Rattle.std.proofs.Common.{◌≡◌, ◌*◌, ◌≤◌, length, take, drop, List}
use Rattle.std.specs.Vec.{vec_len, vec_capacity}
use Rattle.crypto_op.specs.declared.op.Op.{Op}
use Rattle.event_adapter.specs.Steps.{Along, Offered}
use Rattle.event_adapter.proofs.steps.offer_all.Given as goal

abbrev pub invariant-loop-i : goal.invariant-loop-i
invariant-loop-i g l = record {
  step : (ops : List (Op g.row.C.Denot)) × Along (Offered g.D.Driver) 0 (take l.i l.initial.pairs.items) (take l.i l.pairs.items) ops × (length ops ≡ l.n);
  rest : drop l.i l.pairs.items ≡ drop l.i l.initial.pairs.items;
  few : l.n ≤ 32 * l.i;
  len : vec_len l.pairs ≡ vec_len l.initial.pairs;
  capacity : vec_capacity l.pairs ≡ vec_capacity l.initial.pairs;
}
