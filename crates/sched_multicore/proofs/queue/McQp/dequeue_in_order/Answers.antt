use Rattle.std.proofs.Common.{rules, arith, ap, subst, ◌∙◌, ◌≡◌, ◌<◌, length, true}
use Rattle.sched_multicore.specs.Place.{NoneGone}
use Rattle.sched_multicore.specs.Queue.{Queue}
use Rattle.sched_multicore.proofs.Bags.{dequeued_none, dequeued_next, dequeued_looked, first_awaits, ends_ordered}
use Rattle.sched_multicore.proofs.queue.McQp.dequeue_in_order.Goals as goal

pub loop-n-init : goal.loop-n-init
loop-n-init g c = record { dequeued = dequeued_none _ _ }

pub returns-in-Err-clause-dequeued : goal.returns-in-Err-clause-dequeued
returns-in-Err-clause-dequeued g c = dequeued_looked _ _ _ _ _ _ 0 c.in-Err.word c.loop-n.invariant.dequeued c.in-Err.ensures.err.0

pub returns-in-Err-clause-stop : goal.returns-in-Err-clause-stop
returns-in-Err-clause-stop g c =
    let e = c.in-Err.ensures.err in
    let a = c.loop-n.invariant.dequeued.gave in
    let some : 0 < length c.loop-n.self.places = search rules in
    let on : c.loop-n.self.ordering ≡ true = ap (λ z. z.ordering) a.setting ∙ c.requires.ordered in
    let none : NoneGone c.loop-n.self.places = subst (λ (z : Queue g.row.C.Denot). NoneGone z.places) c.self.view_is (c.self.invariant.0.order (ap (λ z. z.ordering) c.self.view_is ∙ on)) in
    ends_ordered _ _ _ _ c.in-Err.word c.requires.ordered (omega (arith, c.loop-n-test.true, c.min-most.ensures, c.room.ensures)) (first_awaits _ _ _ c.in-Err.word none some a.looks e.0 e.1)

pub loop-n-preserved : goal.loop-n-preserved
loop-n-preserved g c = record { dequeued = dequeued_next _ _ _ _ _ _ _ c.in-Ok.op c.loop-n.invariant.dequeued c.in-Ok.ensures.ok c.push.ensures }
