use Rattle.std.proofs.Common.{ap, sym, subst, ◌∙◌, ◌+◌}
use Rattle.sched_multicore.specs.Place.{unreturned}
use Rattle.sched_multicore.specs.Step.{Bagged, Dequeued}
use Rattle.sched_multicore.proofs.Bags.{bagged_on, dequeued_on, bagged_all, bagged_none, dequeued_none, empty_of}
use Rattle.sched_multicore.proofs.queue.McQp.drain.Goals as goal

pub loop-init : goal.loop-init
loop-init g c = record { came = (0, bagged_none _ _, λ on. dequeued_none _ _) }

pub loop-preserved : goal.loop-preserved
loop-preserved g c =
    let v = c.loop.invariant.came in
    let e = c.dequeue_burst.ensures in
    record { came = (v.0 + c.dequeue_burst.result.n, bagged_on _ _ _ _ _ _ _ _ v.1 e.bagged, λ on. dequeued_on _ _ _ _ _ _ _ _ (v.2 on) (e.ordered (ap (λ z. z.ordering) v.1.gave.setting ∙ on))) }

pub returns-then-pending-eq0-clause-ordered : goal.returns-then-pending-eq0-clause-ordered
returns-then-pending-eq0-clause-ordered g c on =
    let v = c.loop.invariant.came in
    let e = c.dequeue_burst.ensures in
    let r = c.dequeue_burst.new.self in
    let u = c.dequeue_burst.new.out in
    let n = v.0 + c.dequeue_burst.result.n in
    let none = empty_of (unreturned r.places) (sym c.pending.ensures ∙ c.if-pending-eq0.true) in
    let all = bagged_on _ _ _ _ _ _ v.0 c.dequeue_burst.result.n v.1 e.bagged in
    subst (λ m. Dequeued c.args.self.now c.args.out.now m r u) (bagged_all _ r _ u n all none) (dequeued_on _ _ _ _ _ _ v.0 c.dequeue_burst.result.n (v.2 on) (e.ordered (ap (λ z. z.ordering) v.1.gave.setting ∙ on)))

pub returns-then-pending-eq0-clause-bagged : goal.returns-then-pending-eq0-clause-bagged
returns-then-pending-eq0-clause-bagged g c =
    let v = c.loop.invariant.came in
    let e = c.dequeue_burst.ensures in
    let r = c.dequeue_burst.new.self in
    let u = c.dequeue_burst.new.out in
    let n = v.0 + c.dequeue_burst.result.n in
    let none = empty_of (unreturned r.places) (sym c.pending.ensures ∙ c.if-pending-eq0.true) in
    let all = bagged_on _ _ _ _ _ _ v.0 c.dequeue_burst.result.n v.1 e.bagged in
    subst (λ m. Bagged c.args.self.now c.args.out.now m r u) (bagged_all _ r _ u n all none) all
