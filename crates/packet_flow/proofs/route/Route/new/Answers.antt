use Rattle.std.proofs.Common.{List, ◌∷◌, ◌++◌, [], ap, ◌∙◌}
use Rattle.crypto_op.specs.declared.spec.Card.{Card}
use Rattle.crypto_op.specs.declared.op.Op.{Op}
use Rattle.crypto_op.specs.Burst.{Burst}
use Rattle.dev_core.specs.declared.limits.LimitedCalls.{LimitedCalls}
use Rattle.event_adapter.specs.declared.moved.Moved.{Moved}
use Rattle.event_adapter.specs.declared.queue_pair.QueuePair.{QueuePair}
use Rattle.packet_flow.proofs.route.Route.new.Goals as goal

pub returns-clause-new : goal.returns-clause-new
returns-clause-new g c =
    let added = c.in-Ok-queue_pair_add.ensures in
    let p = added.pairs in
    let made = c.in-Ok-new.ensures in
    record {
      pair = p.0;
      alone = p.1 ∙ ap (λ (l : List (QueuePair Card _)). l ++ p.0 ∷ []) made.pairs;
      id = p.2;
      dev_is = p.3;
      none_waits = ap (λ (b : Burst (Op Card)). b.ops) p.4;
      mode = added.rest.mode ∙ made.mode;
      none_out = added.rest.out ∙ made.out;
      none_in = c.in-Ok.ensures.empty.0;
      none_back = c.in-Ok.ensures.empty.1;
      wide = record { cap = c.in-Ok.ensures.cap; takes = ap (λ (l : LimitedCalls). l.limits) c.in-Ok.ensures.takes; sends = ap (λ (l : LimitedCalls). l.limits) c.in-Ok.ensures.sends };
      none_submitted = ap (λ (m : Moved). m.submitted) (added.rest.moved ∙ made.moved);
    }
