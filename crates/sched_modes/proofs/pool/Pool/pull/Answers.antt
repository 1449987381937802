use Rattle.std.proofs.Common.{◌≡◌, ◌<◌, ◌≤◌, [], length, map, take, ap, subst, arith, refl, min, ℕ}
use Rattle.std.proofs.lemmas.List.{length-drop, length-map}
use Rattle.crypto_op.specs.Op.{entry_of}
use Rattle.dev_core.specs.Burst.{added, room_of}
use Rattle.dev_core.specs.declared.stats.Stats.{Stats}
use Rattle.sched_modes.specs.Crew.{DrawsFrom, account}
use Rattle.sched_modes.specs.Laws.{total_none}
use Rattle.sched_modes.specs.Pool.{pending_in}
use Rattle.sched_modes.specs.Workers.{StopIs, places, pending_with, stop_after, together}
use Rattle.sched_modes.proofs.Ahead.{open_front}
use Rattle.sched_modes.proofs.Crews.{deals_out, stalls_rise}
use Rattle.sched_modes.proofs.Draws.{draws_from, draws_less, stop_is}
use Rattle.sched_modes.proofs.pool.Pool.pull.Goals as goal

pub returns-clause-does : goal.returns-clause-does
returns-clause-does g c t =
    let p = c.args.self.now in let e = c.draw-n.ensures in let m = g.D.Driver in
    let within : p.workers ≤ length p.devs.items = omega (arith, p.sizes.1, p.devs.ok.0) in
    let asked : c.min-asked.result ≡ min c.args.max (room_of c.args.out.now) = omega (arith, c.min-asked.ensures, c.room.ensures) in
    subst (λ (x : ℕ). DrawsFrom (record { turn = t; workers = map (account m) (take p.workers p.devs.items); ring = places p.ring }) x c.draw-n.result (record { turn = t; workers = map (account m) (take p.workers c.draw-n.new.devs.items); ring = places c.draw-n.new.ring })) asked
    (draws_from m p.workers t c.min-asked.result c.draw-n.result p.devs.items c.draw-n.new.devs.items p.ring c.draw-n.new.ring within e.serves e.ring e.stalled e.sound e.front)

pub returns-clause-stalls : goal.returns-clause-stalls
returns-clause-stalls g c =
    let p = c.args.self.now in
    let within : p.workers ≤ length p.devs.items = omega (arith, p.sizes.1, p.devs.ok.0) in
    stalls_rise (λ k. []) 0 _ _ (deals_out g.D.Driver (λ k. []) 0 p.workers p.devs.items c.draw-n.new.devs.items 0 0 (places p.ring) (places c.draw-n.new.ring) within c.draw-n.ensures.serves (total_none p.workers))

pub returns-clause-cause : goal.returns-clause-cause
returns-clause-cause g c less =
    let p = c.args.self.now in let e = c.draw-n.ensures in let m = g.D.Driver in
    let within : p.workers ≤ length p.devs.items = omega (arith, p.sizes.1, p.devs.ok.0) in
    let xs = added c.args.out.now c.draw-n.new.out in
    let n : length (map entry_of xs) ≡ c.draw-n.result = omega (arith, length-map xs entry_of, length-drop (length c.args.out.now.ops) c.draw-n.new.out.ops, e.count) in
    let asked : c.min-asked.result ≡ min c.args.max (room_of c.args.out.now) = omega (arith, c.min-asked.ensures, c.room.ensures) in
    let below : c.draw-n.result < c.min-asked.result = omega (arith, less, asked) in
    let fewer : c.draw-n.result < length (pending_in p) = omega (arith, less) in
    draws_less m p.workers 0 c.min-asked.result c.draw-n.result p.devs.items c.draw-n.new.devs.items p.ring c.draw-n.new.ring (map entry_of xs) (pending_in p) within e.serves e.ring e.stalled e.sound e.front e.pending n below fewer

pub returns-clause-follows : goal.returns-clause-follows
returns-clause-follows g c =
    let p = c.args.self.now in
    record {
      parts = λ k. [];
      went = record { workers = refl; threshold = refl; sessions = refl; cap = c.draw-n.ensures.cap; devs = c.draw-n.ensures.serves };
      enqueued = (let t = total_none p.workers in omega (arith, t, ap (λ (s : Stats). s.enqueued) c.count_dequeue.ensures));
    }

pub returns-clause-stop : goal.returns-clause-stop
returns-clause-stop g c =
    let p = c.args.self.now in let e = c.draw-n.ensures in
    let es = together g.D.Driver p.workers c.draw-n.new.devs.items in
    let asked : c.min-asked.result ≡ min c.args.max (room_of c.args.out.now) = omega (arith, c.min-asked.ensures, c.room.ensures) in
    rw c.why.ensures (subst (λ (x : ℕ). StopIs (stop_after c.draw-n.result c.min-asked.result c.held_by-left.result) c.draw-n.result x (pending_with g.D.Driver c.draw-n.new.ring p.workers c.draw-n.new.devs.items) es) asked
    (stop_is c.draw-n.new.ring es c.draw-n.result c.min-asked.result c.held_by-left.result e.within c.held_by-left.ensures e.sound e.front))

pub returns-clause-front : goal.returns-clause-front
returns-clause-front g c less some =
    let p = c.args.self.now in let e = c.draw-n.ensures in
    let es = together g.D.Driver p.workers c.draw-n.new.devs.items in
    let below : c.draw-n.result < c.min-asked.result = omega (arith, less, c.min-asked.ensures, c.room.ensures) in
    (open_front c.draw-n.new.ring es some e.sound (e.front below)).0
