use Rattle.std.proofs.Common.{◌≡◌, ◌<◌, ◌≤◌, ◌+◌, ◌++◌, ◌^◌, min, length, take, map, ap, ◌∙◌, sym, arith, Some, length-append}
use Rattle.std.specs.List.{flat_map, All}
use Rattle.std.proofs.Math.ListN.{set}
use Rattle.std.proofs.lemmas.List.{length-take, length-map, get_or-set_same, drop-set-lt, length-set}
use Rattle.std.proofs.lemmas.List.Elements.{All-append}
use Rattle.std.proofs.lemmas.List.Sorted.{IsPermutation-refl}
use Rattle.crypto_op.specs.Op.{data_len_of, entry_of}
use Rattle.dev_core.specs.Burst.{front, front_log, lens, log_entry}
use Rattle.dev_core.specs.declared.stats.Stats.{Stats}
use Rattle.sched_core.specs.Pending.{numbered, opened, pending_of, IsRingSound, SlotDone}
use Rattle.sched_core.specs.Ring.{number}
use Rattle.sched_core.specs.Logged.{renumbered}
use Rattle.sched_core.proofs.PendingMore.{holds_more, pending_more}
use Rattle.sched_core.proofs.Renumbered.{length_renumbered}
use Rattle.sched_modes.specs.Workers.{together}
use Rattle.sched_modes.proofs.Held.{held_set, same_at}
use Rattle.sched_modes.proofs.Goings.{each_at, goes_in}
use Rattle.sched_modes.proofs.Numbered.{length_numbered, opened_done}
use Rattle.sched_modes.proofs.offer.offer.Goals as goal

pub returns-in-Some-clause-in_order : goal.returns-in-Some-clause-in_order
returns-in-Some-clause-in_order g c o =
    let held = g.D.Driver.held in
    let devs = c.args.devs.now.items in
    let r = c.in-Some.ring in
    let n = c.enqueue_through.result in
    let ops = take n c.args.burst.now.ops in
    let sound : IsRingSound (Some r) (together g.D.Driver c.args.workers devs) = rw c.in-Some.is at c.requires.sound in
    let t : c.args.turn < length devs = omega (arith, c.args.devs.now.ok.0) in
    let p = held_set held devs c.args.workers c.args.turn c.index_mut-worker.result.now c.enqueue_through.new.worker (numbered (r.first + length r.slots) (map entry_of ops)) c.requires.turn t c.index_mut-worker.ensures.value c.enqueue_through.ensures.held in
    let len : length r.slots + length ops ≤ 2 ^ 64 = omega (arith, length-take n c.args.burst.now.ops, c.enqueue_through.ensures.offered, sound.1, sound.2) in
    rw (c.in-Some.is, c.enqueue_through.ensures.ring)
    (pending_more r (flat_map held (take c.args.workers devs)) (flat_map held (take c.args.workers (set devs c.args.turn c.enqueue_through.new.worker))) ops len sound.0 p)

pub returns-in-Some-clause-pending : goal.returns-in-Some-clause-pending
returns-in-Some-clause-pending g c =
    let e = returns-in-Some-clause-in_order g c (rw c.in-Some.is tt) in
    rw e (IsPermutation-refl (pending_of c.args.ring.now (together g.D.Driver c.args.workers c.args.devs.now.items) ++ front c.enqueue_through.result c.args.burst.now))

pub returns-in-Some-clause-sound : goal.returns-in-Some-clause-sound
returns-in-Some-clause-sound g c =
    let held = g.D.Driver.held in
    let devs = c.args.devs.now.items in
    let r = c.in-Some.ring in
    let n = c.enqueue_through.result in
    let ops = take n c.args.burst.now.ops in
    let sound : IsRingSound (Some r) (together g.D.Driver c.args.workers devs) = rw c.in-Some.is at c.requires.sound in
    let t : c.args.turn < length devs = omega (arith, c.args.devs.now.ok.0) in
    let p = held_set held devs c.args.workers c.args.turn c.index_mut-worker.result.now c.enqueue_through.new.worker (numbered (r.first + length r.slots) (map entry_of ops)) c.requires.turn t c.index_mut-worker.ensures.value c.enqueue_through.ensures.held in
    rw c.enqueue_through.ensures.ring (
      holds_more r (flat_map held (take c.args.workers devs)) (flat_map held (take c.args.workers (set devs c.args.turn c.enqueue_through.new.worker))) ops sound.0 p,
      omega (arith, length-append r.slots (map opened ops), length-map ops opened, length-take n c.args.burst.now.ops, c.enqueue_through.ensures.offered, sound.1),
      sound.2,
      sound.3,
    )

pub returns-in-Some-clause-answered : goal.returns-in-Some-clause-answered
returns-in-Some-clause-answered g c sessions done =
    let ops = take c.enqueue_through.result c.args.burst.now.ops in
    let old : All (SlotDone sessions) c.in-Some.ring.slots = rw c.in-Some.is at done in
    rw c.enqueue_through.ensures.ring (All-append (SlotDone sessions) c.in-Some.ring.slots (map opened ops) old (opened_done sessions ops))

pub returns-in-Some-clause-serves : goal.returns-in-Some-clause-serves
returns-in-Some-clause-serves g c =
    let devs = c.args.devs.now.items in
    let r = c.in-Some.ring in
    let n = c.enqueue_through.result in
    let b = c.args.burst.now in
    let ops = take n b.ops in
    let d = c.index_mut-worker.result.now in
    let d' = c.enqueue_through.new.worker in
    let e = c.enqueue_through.ensures in
    let t : c.args.turn < length devs = omega (arith, c.args.devs.now.ok.0) in
    let xs = numbered (r.first + length r.slots) (map entry_of ops) in
    let next = number r (length r.slots) in
    let few : length ops ≡ n = omega (arith, length-take n b.ops, e.offered) in
    let len : length xs ≡ n = omega (arith, length_numbered (r.first + length r.slots) (map entry_of ops), length-map ops entry_of, few) in
    let count : length (renumbered next (front_log n b)) ≡ n = omega (arith, length_renumbered next (front_log n b), length-map ops log_entry, few) in
    rw c.in-Some.is (record {
      len = length-set devs c.args.turn d';
      each = each_at g.D.Driver g.met.D.Driver.follows_itself devs c.args.turn (renumbered next (front_log n b)) d d' t c.index_mut-worker.ensures.value
          (goes_in g.D.Driver d d' n xs (renumbered next (front_log n b)) e.follows e.stalls e.sessions e.room e.within e.taken e.log e.held len count);
      others = drop-set-lt c.args.workers devs c.args.turn d' c.requires.turn;
    })

pub returns-in-None-clause-pending : goal.returns-in-None-clause-pending
returns-in-None-clause-pending g c =
    let devs = c.args.devs.now.items in
    let t : c.args.turn < length devs = omega (arith, c.args.devs.now.ok.0) in
    rw c.in-None.is
    (held_set g.D.Driver.held devs c.args.workers c.args.turn c.index_mut-worker.result.now c.enqueue_burst.new.self (front c.enqueue_burst.result c.args.burst.now) c.requires.turn t c.index_mut-worker.ensures.value c.enqueue_burst.ensures.held)

pub returns-in-None-clause-serves : goal.returns-in-None-clause-serves
returns-in-None-clause-serves g c =
    let devs = c.args.devs.now.items in
    let n = c.enqueue_burst.result in
    let b = c.args.burst.now in
    let ops = take n b.ops in
    let d = c.index_mut-worker.result.now in
    let d' = c.enqueue_burst.new.self in
    let e = c.enqueue_burst.ensures in
    let ls = lens c.places_for-most.result b in
    let t : c.args.turn < length devs = omega (arith, c.args.devs.now.ok.0) in
    let few : length ops ≡ n = omega (arith, length-take n b.ops, e.offered) in
    let len : length (front n b) ≡ n = omega (arith, length-map ops entry_of, few) in
    let count : length (front_log n b) ≡ n = omega (arith, length-map ops log_entry, few) in
    rw c.in-None.is (record {
      len = length-set devs c.args.turn d';
      each = each_at g.D.Driver g.met.D.Driver.follows_itself devs c.args.turn (front_log n b) d d' t c.index_mut-worker.ensures.value
          (goes_in g.D.Driver d d' n (front n b) (front_log n b) e.follows e.stalls e.sessions e.room
          (λ r k. let l = e.admitted (min (length ls) r) (g.met.D.Driver.room_admits d r ls k) in omega (arith, l))
          (ap (λ (x : Stats). x.enqueued) e.stats) e.log e.held len count);
      others = drop-set-lt c.args.workers devs c.args.turn d' c.requires.turn;
    })

pub returns-in-None-clause-cause : goal.returns-in-None-clause-cause
returns-in-None-clause-cause g c x r e =
    let devs = c.args.devs.now.items in
    let b = c.args.burst.now in
    let d = c.index_mut-worker.result.now in
    let d' = c.enqueue_burst.new.self in
    let most = c.places_for-most.result in
    let ls = lens most b in
    let t : c.args.turn < length devs = omega (arith, c.args.devs.now.ok.0) in
    let is = same_at devs c.args.turn d x t c.index_mut-worker.ensures.value in
    let k = ap g.D.Driver.room (sym is) ∙ e in
    let told = g.met.D.Driver.room_admits d r ls k in
    let len : length ls ≡ min most (length b.ops) = length-map (take most b.ops) (λ op. data_len_of op.spec) ∙ length-take most b.ops in
    let most_is = rw c.in-None.is at c.places_for-most.ensures in
    let l = c.enqueue_burst.ensures.admitted (min (length ls) r) told in (
      omega (arith, l),
      λ less.
          let fewer = rw c.in-None.is at less in
          rw (is, get_or-set_same devs c.args.turn d' x t) (c.enqueue_burst.ensures.cause (min (length ls) r) told (omega (arith, fewer, len, most_is))),
    )
