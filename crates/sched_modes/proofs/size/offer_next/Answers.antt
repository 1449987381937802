use Rattle.std.proofs.Common.{◌≡◌, ℕ, Some, ap, ◌∙◌, sym, subst, arith}
use Rattle.std.specs.Prelude.{slice_index_or}
use Rattle.crypto_model.specs.Counts.{Rose}
use Rattle.crypto_op.specs.declared.op.Op.{Op}
use Rattle.crypto_op.specs.Op.{data_len_of}
use Rattle.dev_core.specs.Burst.{offered}
use Rattle.sched_modes.specs.Crew.{free, size_worker}
use Rattle.sched_modes.specs.Workers.{places}
use Rattle.sched_modes.proofs.SizeStep.{dealt_more, free_one, next_is, told_again}
use Rattle.sched_modes.proofs.size.offer_next.Goals as goal

pub returns-clause-dealt : goal.returns-clause-dealt
returns-clause-dealt g c old all n few dealt =
    let e = c.offer_to.ensures in let b = c.args.burst.now in
    let one = free_one (places c.args.pool.now.ring) b in
    let size : c.worker_for-worker.result ≡ size_worker old.threshold (data_len_of c.get.result.now.spec) =
    c.worker_for-worker.ensures.worker ∙ (ap (λ (t : ℕ). size_worker t c.data_len.result) dealt.went.threshold ∙ ap (size_worker old.threshold) c.data_len.ensures) in
    dealt_more g.met.D.Driver.follows_on old c.args.pool.now c.offer_to.new.self all b c.offer_to.new.burst n c.offer_to.result c.worker_for-worker.result c.get.result.now
    few (omega (arith, e.offered, one)) c.requires.some c.get.ensures size (omega (arith, e.offered, one)) dealt e.rest e.pending e.in_order e.ring e.went e.room (λ d q k. (e.cause d q k).0) e.same e.stats

pub returns-clause-cause : goal.returns-clause-cause
returns-clause-cause g c none place op get r d told some =
    let st = g.D.Driver.stalls in
    let p1 = c.args.pool.now in let p2 = c.offer_to.new.self in let b = c.args.burst.now in
    let t = c.worker_for-worker.result in let e = c.offer_to.ensures in
    let here : c.get.result.now ≡ op = next_is 0 b.ops c.get.result.now op c.requires.some get c.get.ensures in
    let turn : t ≡ size_worker p1.threshold (data_len_of op.spec) =
    c.worker_for-worker.ensures.worker ∙ (ap (size_worker p1.threshold) c.data_len.ensures ∙ ap (λ (o : Op _). size_worker p1.threshold (data_len_of o.spec)) here) in
    let now = subst (λ (k : ℕ). g.D.Driver.room (slice_index_or p2.devs.items k d) ≡ Some r) (sym turn) told in
    let before = told_again (g.D.Driver.room (slice_index_or p1.devs.items t d)) c.offer_to.result r none (sym (e.room d) ∙ now) in
    let one : offered 1 b ≡ 1 = omega (arith, c.requires.some) in
    let free_is = ap (free (places p1.ring)) one in
    subst (λ (k : ℕ). Rose (st (slice_index_or p1.devs.items k d)) (st (slice_index_or p2.devs.items k d))) turn ((e.cause d r before).1 (omega (arith, none, place, some, free_is)))

pub returns-clause-one : goal.returns-clause-one
returns-clause-one g c =
    let one : offered 1 c.args.burst.now ≡ 1 = omega (arith, c.requires.some) in
    let free_is = ap (free (places c.args.pool.now.ring)) one in
    omega (arith, c.offer_to.ensures.offered, free_is)
