use Rattle.std.proofs.Common.{◌≡◌, ◌≤◌, ◌+◌, ◌-◌, ◌++◌, length, ap, ◌∙◌, subst, arith, ℕ}
use Rattle.dev_core.specs.Burst.{front, front_log, lens, offered}
use Rattle.dev_core.specs.declared.stats.Stats.{Stats}
use Rattle.crypto_op.specs.Op.{IsFresh}
use Rattle.sched_modes.specs.Crew.{only_for, told}
use Rattle.sched_modes.specs.Laws.{order_kept, went_two}
use Rattle.sched_modes.specs.Pool.{crew, pending_in}
use Rattle.sched_modes.specs.Workers.{Serves, places}
use Rattle.sched_modes.proofs.Bursts.{free_le, length_front_log, length_told, lens_is}
use Rattle.sched_modes.proofs.Crews.{stalls_rise}
use Rattle.sched_modes.proofs.Failing.{fail_admitted, fail_offers, fail_stalls, sum_two}
use Rattle.sched_modes.proofs.Two.{fresh_rest, front_two, order_two, pending_two}
use Rattle.sched_modes.proofs.fail.FailOverDriver.enqueue_burst.Goals as goal

pub returns-clause-does : goal.returns-clause-does
returns-clause-does g c =
    let s = c.args.self.now in let p = s.pool in let e = c.offer_to-first.ensures in let k = c.offer_to-second.ensures in
    let p1 = c.offer_to-first.new.self in let p2 = c.offer_to-second.new.self in
    let within : p.workers ≤ length p.devs.items = omega (arith, p.sizes.1, p.devs.ok.0) in
    let serves = subst (λ (w : ℕ). Serves g.D.Driver (only_for 1 (told (places p1.ring) (front_log c.offer_to-second.result c.offer_to-first.new.burst))) w p1.devs.items p2.devs.items) e.went.workers k.went.devs in
    rw (k.went.workers, e.went.workers) (fail_offers g.D.Driver g.met.D.Driver.follows_on p.workers p.devs.items p1.devs.items p2.devs.items 0 (places p.ring) (places p1.ring) (places p2.ring) c.args.burst.now c.offer_to-first.new.burst
    c.args.max c.offer_to-first.result c.offer_to-second.result within s.two e.rest e.offered e.went.devs e.ring e.cause e.same k.offered serves k.ring k.cause k.same)

pub offer_to-second-requires-clause-fresh : goal.offer_to-second-requires-clause-fresh
offer_to-second-requires-clause-fresh g c =
    let few = free_le (places c.args.self.now.pool.ring) (offered c.args.max c.args.burst.now) in
    rw c.offer_to-first.ensures.rest (fresh_rest IsFresh c.args.max c.offer_to-first.result c.args.burst.now.ops (omega (arith, c.offer_to-first.ensures.offered, few)) c.requires)

pub returns-clause-held : goal.returns-clause-held
returns-clause-held g c =
    let b = c.args.burst.now in let m = c.offer_to-first.result in let n = c.offer_to-second.result in
    let p0 = c.args.self.now.pool in let p1 = c.offer_to-first.new.self in let p2 = c.offer_to-second.new.self in
    pending_two (pending_in p0) (pending_in p1) (pending_in p2) (front m b) (front n c.offer_to-first.new.burst) (front (m + n) b)
    (front_two m n b c.offer_to-first.new.burst c.offer_to-first.ensures.rest) c.offer_to-first.ensures.pending c.offer_to-second.ensures.pending

pub returns-clause-in_order : goal.returns-clause-in_order
returns-clause-in_order g c o =
    let b = c.args.burst.now in let m = c.offer_to-first.result in let n = c.offer_to-second.result in
    let p0 = c.args.self.now.pool in let p1 = c.offer_to-first.new.self in let p2 = c.offer_to-second.new.self in
    order_two (pending_in p0) (pending_in p1) (pending_in p2) (front m b) (front n c.offer_to-first.new.burst) (front (m + n) b)
    (front_two m n b c.offer_to-first.new.burst c.offer_to-first.ensures.rest) (c.offer_to-first.ensures.in_order o)
    (c.offer_to-second.ensures.in_order (order_kept p0.ring p1.ring c.offer_to-first.ensures.went.cap o))

pub returns-clause-admitted : goal.returns-clause-admitted
returns-clause-admitted g c x e =
    fail_admitted (crew 0 c.args.self.now.pool) _ (front_log c.args.max c.args.burst.now) (lens c.args.max c.args.burst.now) (c.offer_to-first.result + c.offer_to-second.result) x (lens_is c.args.max c.args.burst.now) (returns-clause-does g c) e

pub returns-clause-cause : goal.returns-clause-cause
returns-clause-cause g c x e less =
    fail_stalls (crew 0 c.args.self.now.pool) _ (front_log c.args.max c.args.burst.now) (lens c.args.max c.args.burst.now) (c.offer_to-first.result + c.offer_to-second.result) x (lens_is c.args.max c.args.burst.now) (returns-clause-does g c) e less

pub returns-clause-stalls : goal.returns-clause-stalls
returns-clause-stalls g c = stalls_rise _ (c.offer_to-first.result + c.offer_to-second.result) _ _ (returns-clause-does g c).deals

pub returns-clause-follows : goal.returns-clause-follows
returns-clause-follows g c =
    let s = c.args.self.now in let p = s.pool in let p1 = c.offer_to-first.new.self in let p2 = c.offer_to-second.new.self in
    let b = c.args.burst.now in let b1 = c.offer_to-first.new.burst in
    let m = c.offer_to-first.result in let n = c.offer_to-second.result in
    let e = c.offer_to-first.ensures in let k = c.offer_to-second.ensures in
    let xs = told (places p.ring) (front_log m b) in let ys = told (places p1.ring) (front_log n b1) in
    let went = went_two g.met.D.Driver.follows_on (only_for 0 xs) (only_for 1 ys) p p1 p2 e.went k.went in
    let m_is : length xs ≡ m = length_told (places p.ring) (front_log m b) ∙ (length_front_log m b ∙ omega (arith, e.offered, free_le (places p.ring) (offered c.args.max b))) in
    let n_is : length ys ≡ n = length_told (places p1.ring) (front_log n b1) ∙ (length_front_log n b1 ∙ omega (arith, k.offered, free_le (places p1.ring) (offered (c.args.max - m) b1))) in
    record {
      parts = λ i. only_for 0 xs i ++ only_for 1 ys i;
      went = record { workers = went.workers; threshold = went.threshold; sessions = went.sessions; cap = went.cap; devs = went.devs };
      enqueued = (let sum = sum_two p.workers m n xs ys s.two m_is n_is in
          omega (arith, sum, ap (λ (x : Stats). x.enqueued) c.count_enqueue.ensures, ap (λ (x : Stats). x.enqueued) e.stats, ap (λ (x : Stats). x.enqueued) k.stats));
    }
