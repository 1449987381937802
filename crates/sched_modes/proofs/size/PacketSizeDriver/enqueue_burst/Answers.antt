use Rattle.std.proofs.Common.{◌≡◌, ◌≤◌, length, ap, ◌∙◌, arith}
use Rattle.dev_core.specs.Burst.{front_log, lens, offered}
use Rattle.dev_core.specs.declared.stats.Stats.{Stats}
use Rattle.sched_modes.specs.Crew.{of_size, told, total}
use Rattle.sched_modes.specs.Pool.{crew}
use Rattle.sched_modes.specs.Workers.{places}
use Rattle.sched_modes.proofs.Bursts.{free_le, length_front_log, length_told, lens_is}
use Rattle.sched_modes.proofs.Crews.{stalls_rise}
use Rattle.sched_modes.proofs.Sized.{size_admitted, size_offers, size_stalls}
use Rattle.sched_modes.proofs.Sizes.{total_sizes}
use Rattle.sched_modes.proofs.size.PacketSizeDriver.enqueue_burst.Goals as goal

pub returns-clause-does : goal.returns-clause-does
returns-clause-does g c =
    let s = c.args.self.now in let p = s.pool in let e = c.deal-n.ensures in let q = c.deal-n.new.pool in
    let within : p.workers ≤ length p.devs.items = omega (arith, p.sizes.1, p.devs.ok.0) in
    rw e.dealt.went.workers (size_offers g.D.Driver p.threshold p.workers p.devs.items q.devs.items (places p.ring) (places q.ring) c.args.burst.now c.args.max c.deal-n.result within s.two e.offered e.dealt.went.devs e.dealt.ring e.dealt.rooms e.cause)

pub returns-clause-admitted : goal.returns-clause-admitted
returns-clause-admitted g c x e =
    size_admitted c.args.self.now.pool.threshold (crew 0 c.args.self.now.pool) _ (front_log c.args.max c.args.burst.now) (lens c.args.max c.args.burst.now) c.deal-n.result x (lens_is c.args.max c.args.burst.now) (returns-clause-does g c) e

pub returns-clause-cause : goal.returns-clause-cause
returns-clause-cause g c x e less =
    size_stalls c.args.self.now.pool.threshold (crew 0 c.args.self.now.pool) _ (front_log c.args.max c.args.burst.now) (lens c.args.max c.args.burst.now) c.deal-n.result x (lens_is c.args.max c.args.burst.now) (returns-clause-does g c) e less

pub returns-clause-stalls : goal.returns-clause-stalls
returns-clause-stalls g c = stalls_rise _ c.deal-n.result _ _ (returns-clause-does g c).deals

pub returns-clause-follows : goal.returns-clause-follows
returns-clause-follows g c =
    let s = c.args.self.now in let p = s.pool in let b = c.args.burst.now in let n = c.deal-n.result in let e = c.deal-n.ensures in
    let ops = told (places p.ring) (front_log n b) in let went = e.dealt.went in
    record {
      parts = λ k. of_size p.threshold k ops;
      went = record { workers = went.workers; threshold = went.threshold; sessions = went.sessions; cap = went.cap; devs = went.devs };
      enqueued =
          (let sum : total p.workers (λ k. length (of_size p.threshold k ops)) ≡ offered n b = rw s.two (total_sizes p.threshold ops ∙ (length_told (places p.ring) (front_log n b) ∙ length_front_log n b)) in
          omega (arith, sum, e.offered, free_le (places p.ring) (offered c.args.max b), ap (λ (x : Stats). x.enqueued) c.count_enqueue.ensures, ap (λ (x : Stats). x.enqueued) e.dealt.stats));
    }
