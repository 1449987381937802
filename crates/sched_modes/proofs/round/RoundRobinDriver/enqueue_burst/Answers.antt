use Rattle.std.proofs.Common.{◌≤◌, length, ap, ◌∙◌, arith}
use Rattle.dev_core.specs.Burst.{front_log, lens}
use Rattle.dev_core.specs.declared.stats.Stats.{Stats}
use Rattle.sched_modes.specs.Crew.{only_for, told, turned}
use Rattle.sched_modes.specs.Pool.{crew}
use Rattle.sched_modes.specs.Workers.{places}
use Rattle.sched_modes.proofs.Bursts.{free_le, length_front_log, length_told, lens_is, total_only}
use Rattle.sched_modes.proofs.Crews.{stalls_rise}
use Rattle.sched_modes.proofs.Turns.{round_admitted, round_offers, round_stalls}
use Rattle.sched_modes.proofs.round.RoundRobinDriver.enqueue_burst.Goals as goal

pub returns-clause-does : goal.returns-clause-does
returns-clause-does g c =
    let s = c.args.self.now in let p = s.pool in let e = c.offer_to-n.ensures in
    let within : p.workers ≤ length p.devs.items = omega (arith, p.sizes.1, p.devs.ok.0) in
    let turn = rw e.went.workers at c.next_turn-self.ensures.turn in
    rw e.went.workers (round_offers g.D.Driver p.workers p.devs.items c.offer_to-n.new.self.devs.items s.turn c.next_turn-self.result (places p.ring) (places c.offer_to-n.new.self.ring) c.args.burst.now c.args.max c.offer_to-n.result
    within s.within e.offered e.went.devs e.ring e.cause (turn ∙ ap (λ x. turned p.workers s.turn x) (omega (arith, c.min-offered.ensures, c.len.ensures))))

pub returns-clause-admitted : goal.returns-clause-admitted
returns-clause-admitted g c x e =
    round_admitted (crew c.args.self.now.turn c.args.self.now.pool) _ (front_log c.args.max c.args.burst.now) (lens c.args.max c.args.burst.now) c.offer_to-n.result x (lens_is c.args.max c.args.burst.now) (returns-clause-does g c) e

pub returns-clause-cause : goal.returns-clause-cause
returns-clause-cause g c x e less =
    round_stalls (crew c.args.self.now.turn c.args.self.now.pool) _ (front_log c.args.max c.args.burst.now) (lens c.args.max c.args.burst.now) c.offer_to-n.result x (lens_is c.args.max c.args.burst.now) (returns-clause-does g c) e less

pub returns-clause-stalls : goal.returns-clause-stalls
returns-clause-stalls g c = stalls_rise _ c.offer_to-n.result _ _ (returns-clause-does g c).deals

pub returns-clause-follows : goal.returns-clause-follows
returns-clause-follows g c =
    let s = c.args.self.now in let p = s.pool in let b = c.args.burst.now in let n = c.offer_to-n.result in let e = c.offer_to-n.ensures in
    let ops = told (places p.ring) (front_log n b) in
    record {
      parts = only_for s.turn ops;
      went = record { workers = e.went.workers; threshold = e.went.threshold; sessions = e.went.sessions; cap = e.went.cap; devs = e.went.devs };
      enqueued =
          (let sum = total_only p.workers s.turn ops s.within ∙ (length_told (places p.ring) (front_log n b) ∙ length_front_log n b) in
          omega (arith, sum, (returns-clause-does g c).most, length_front_log c.args.max b, free_le (places p.ring) (length (front_log c.args.max b)), ap (λ (x : Stats). x.enqueued) c.count_enqueue.ensures, ap (λ (x : Stats). x.enqueued) e.stats));
    }
