use Rattle.std.proofs.Common.{arith, ap, ◌∙◌, ◌+◌, length, List, take}
use Rattle.std.proofs.lemmas.List.{take_all}
use Rattle.sched_multicore.specs.declared.place.Place.{Place}
use Rattle.sched_multicore.specs.Place.{unreturned}
use Rattle.sched_multicore.specs.Queue.{Queue}
use Rattle.sched_multicore.proofs.Lists.{some_at}
use Rattle.sched_multicore.proofs.Places.{unreturned_next, place_one}
use Rattle.sched_multicore.proofs.queue.McQp.pending.Goals as goal

pub overflow_add-n : goal.overflow_add-n
overflow_add-n g c =
    let v = c.loop-i.invariant in
    let at = some_at c.self.inside.places.items c.loop-i.i (omega (arith, c.loop-i-test.true, c.loop-i.auto.i-end, c.len-i-end.ensures, c.self.invariant.3)) in
    let n = c.count_at-n.ensures at.0 at.1 in
    let o = place_one at.0 in
    let room = c.self.invariant.0.placing.fits in
    let slots = c.self.invariant.0.sizes.1 in
    omega (arith, v.small, n, o, room, slots, c.loop-i-test.true, c.loop-i.auto.i-end, c.len-i-end.ensures, c.self.invariant.3)

pub loop-i-preserved : goal.loop-i-preserved
loop-i-preserved g c =
    let v = c.loop-i.invariant in
    let i = c.loop-i.i in
    let xs = c.self.inside.places.items in
    let at = some_at xs i (omega (arith, c.loop-i-test.true, c.loop-i.auto.i-end, c.len-i-end.ensures, c.self.invariant.3)) in
    let n = c.count_at-n.ensures at.0 at.1 in
    let s = unreturned_next xs i at.0 at.1 in
    let o = place_one at.0 in
    let view = c.self.view_is in
    let new = ap (λ (q : Queue g.row.C.Denot). length (unreturned (take (i + 1) q.places))) view in
    let old = ap (λ (q : Queue g.row.C.Denot). length (unreturned (take i q.places))) view in
    record { count = omega (arith, v.count, n, s, new, old); small = omega (arith, v.small, n, o) }

pub returns : goal.returns
returns g c =
    let v = c.loop-i.invariant in
    let i = c.loop-i.i in
    let len = ap (λ (q : Queue g.row.C.Denot). length q.places) c.self.view_is in
    v.count ∙ ap (λ (l : List (Place g.row.C.Denot)). length (unreturned l)) (take_all i c.args.self.now.places (omega (arith, len, c.self.invariant.3, c.len-i-end.ensures, c.loop-i-test.false, c.loop-i.auto.i-end)))
