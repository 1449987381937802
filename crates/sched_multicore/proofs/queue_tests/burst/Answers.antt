use Rattle.std.proofs.Common.{◌≡◌, ◌+◌, ◌∷◌, [], length, length-append, arith}
use Rattle.std.specs.List.{All}
use Rattle.std.proofs.lemmas.List.Elements.{All-append, All-cons, All-nil}
use Rattle.crypto_op.specs.Op.{IsFresh}
use Rattle.sched_multicore.proofs.queue_tests.burst.Goals as goal

pub loop-i-preserved : goal.loop-i-preserved
loop-i-preserved c =
    let ops = c.loop-i.burst.ops in
    let op = c.in_ok-operation.field-0 in
    let now = c.loop-i.invariant in
    record {
      fresh = rw c.push.ensures (All-append IsFresh ops (op ∷ []) now.fresh (All-cons IsFresh op [] c.in_ok-operation.ensures (All-nil IsFresh)));
      cap = rw c.push.ensures now.cap;
      count = rw c.push.ensures (omega (arith, length-append ops (op ∷ []), now.count));
    }
