use Rattle.std.proofs.Common.{refl, ◌≡◌, ◌<◌, ◌≤◌, ◌+◌, ◌-◌, ℕ, length, ap, subst, arith}
use Rattle.std.specs.Prelude.{slice_index_or}
use Rattle.std.proofs.lemmas.List.{length-drop}
use Rattle.crypto_op.specs.Op.{IsFresh, data_len_of}
use Rattle.crypto_op.specs.Burst.{Burst}
use Rattle.dev_core.specs.Burst.{offered}
use Rattle.sched_modes.specs.Crew.{free, size_worker}
use Rattle.sched_modes.specs.Sizing.{DealtBySize, HasStalled}
use Rattle.sched_modes.specs.Workers.{places}
use Rattle.sched_modes.proofs.Bursts.{free_le}
use Rattle.sched_modes.proofs.Given.{rose_later}
use Rattle.sched_modes.proofs.SizeStep.{first_left, free_mono, free_some, fresh_next, none_dealt}
use Rattle.sched_modes.proofs.Two.{free_after}
use Rattle.sched_modes.proofs.size.deal.Goals as goal

pub loop-i-init : goal.loop-i-init
loop-i-init g c = record { steps = refl; within = omega arith; dealt = none_dealt g.met.D.Driver.follows_itself c.args.pool.now c.args.burst.now }

pub offer_next-requires-clause-some : goal.offer_next-requires-clause-some
offer_next-requires-clause-some g c =
    let i = c.loop-i.invariant in
    omega (arith, ap (λ (b : Burst _). length b.ops) i.dealt.rest, length-drop c.loop-i.n c.args.burst.now.ops, i.steps, c.loop-i-test.true, c.min-offered.ensures, c.len.ensures)

pub offer_next-requires-clause-fresh : goal.offer_next-requires-clause-fresh
offer_next-requires-clause-fresh g c =
    let i = c.loop-i.invariant in
    fresh_next IsFresh c.args.max c.loop-i.n c.args.burst.now c.loop-i.burst (omega (arith, c.loop-i-test.true, i.steps, c.min-offered.ensures)) i.dealt.rest c.requires.fresh

pub loop-i-preserved : goal.loop-i-preserved
loop-i-preserved g c =
    let i = c.loop-i.invariant in let e = c.offer_next.ensures in
    let p0 = c.args.pool.now in let b0 = c.args.burst.now in let n = c.loop-i.n in
    let few = free_le (places c.loop-i.pool.ring) 1 in
    let k : c.offer_next.result ≡ 1 = omega (arith, c.if-offer_next-eq0.false, e.one, few) in
    let below : n < offered c.args.max b0 = omega (arith, i.steps, c.loop-i-test.true, c.min-offered.ensures, c.len.ensures) in
    let free_is = free_after n (offered c.args.max b0) (places p0.ring) (places c.loop-i.pool.ring) i.dealt.ring i.within in
    let mono = free_mono 1 (offered c.args.max b0 - n) (places c.loop-i.pool.ring) (omega (arith, below)) in
    record {
      steps = omega (arith, i.steps);
      within = omega (arith, k, e.one, free_is, mono);
      dealt = subst (λ (x : ℕ). DealtBySize p0 b0 (n + x) c.offer_next.new.pool c.offer_next.new.burst) k (e.dealt p0 b0 n (omega (arith, below)) i.dealt);
    }

pub returns-then-offer_next-eq0-clause-dealt : goal.returns-then-offer_next-eq0-clause-dealt
returns-then-offer_next-eq0-clause-dealt g c =
    let i = c.loop-i.invariant in let e = c.offer_next.ensures in
    let p0 = c.args.pool.now in let b0 = c.args.burst.now in let n = c.loop-i.n in
    let below : n ≤ length b0.ops = omega (arith, i.steps, c.loop-i-test.true, c.min-offered.ensures, c.len.ensures) in
    let same : n + c.offer_next.result ≡ n = omega (arith, c.if-offer_next-eq0.true) in
    subst (λ (x : ℕ). DealtBySize p0 b0 x c.offer_next.new.pool c.offer_next.new.burst) same (e.dealt p0 b0 n below i.dealt)

pub returns-then-offer_next-eq0-clause-cause : goal.returns-then-offer_next-eq0-clause-cause
returns-then-offer_next-eq0-clause-cause g c less op get r d told some =
    let i = c.loop-i.invariant in let e = c.offer_next.ensures in let st = g.D.Driver.stalls in
    let p0 = c.args.pool.now in let p1 = c.loop-i.pool in let p2 = c.offer_next.new.pool in
    let b0 = c.args.burst.now in let n = c.loop-i.n in
    let below : n < offered c.args.max b0 = omega (arith, i.steps, c.loop-i-test.true, c.min-offered.ensures, c.len.ensures) in
    let free_is = free_after n (offered c.args.max b0) (places p0.ring) (places p1.ring) i.dealt.ring i.within in
    let place : 0 < free (places p1.ring) 1 = free_some 1 (offered c.args.max b0 - n) (places p1.ring) (omega arith) (omega (arith, free_is, less)) in
    let j = size_worker p0.threshold (data_len_of op.spec) in
    let stalled = subst (λ (t : ℕ). HasStalled g.D.Driver (size_worker t (data_len_of op.spec)) p1.devs.items p2.devs.items) i.dealt.went.threshold (e.cause c.if-offer_next-eq0.true place op (first_left n b0 c.loop-i.burst op i.dealt.rest get)) in
    rose_later (st (slice_index_or p0.devs.items j d)) (st (slice_index_or p1.devs.items j d)) (st (slice_index_or p2.devs.items j d)) (i.dealt.went.devs.each j d).took.stalls (stalled r d told some)
