use Rattle.std.proofs.Common.{◌∙◌}
use Rattle.sched_multicore.proofs.Passing.{hands_on}
use Rattle.sched_multicore.proofs.worker.Worker.run_until_closed.Goals as goal

pub returns-then-load-owners-clause-hands : goal.returns-then-load-owners-clause-hands
returns-then-load-owners-clause-hands g c = hands_on _ _ _ c.loop.invariant.hands c.turn.ensures.hands

pub loop-preserved : goal.loop-preserved
loop-preserved g c =
    let v = c.loop.invariant in
    let e = c.turn.ensures in
    record {
      hands = hands_on _ _ _ v.hands e.hands;
      same = record {
        slots = e.same.slots ∙ v.same.slots;
        index = e.same.index ∙ v.same.index;
        opened = (e.same.opened.0 ∙ v.same.opened.0, e.same.opened.1 ∙ v.same.opened.1);
      };
      follows = g.met.D.Driver.follows_on _ _ _ v.follows e.follows;
    }
