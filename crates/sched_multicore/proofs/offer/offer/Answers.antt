use Rattle.std.proofs.Common.{arith, ap, ◌∙◌, ◌≡◌, ◌≤◌, ◌-◌, length, take, min}
use Rattle.std.proofs.lemmas.List.{length-drop, length-map, length-take}
use Rattle.std.proofs.lemmas.List.Elements.{All-drop}
use Rattle.crypto_op.specs.Burst.{Burst}
use Rattle.crypto_op.specs.Op.{IsFresh, data_len_of, entry_of}
use Rattle.dev_core.specs.Burst.{lens}
use Rattle.dev_core.specs.declared.stats.Stats.{Stats}
use Rattle.flight_table.specs.Rule.{Flying}
use Rattle.sched_multicore.proofs.Carrying.{carried_permutation}
use Rattle.sched_multicore.proofs.Counting.{capped_more, counts_offered}
use Rattle.sched_multicore.proofs.Moving.{more_held, went_in}
use Rattle.sched_multicore.proofs.offer.offer.Goals as goal

pub give_back_all-requires : goal.give_back_all-requires
give_back_all-requires g c =
    let s = c.args.carrier.now in
    let e = c.enqueue_burst.ensures in
    let n = c.enqueue_burst.result in
    let old = g.D.Driver.held c.args.dev.now in
    let new = g.D.Driver.held c.enqueue_burst.new.self in
    let p = went_in entry_of n s.burst.ops old new e.held in
    let laden = carried_permutation s.index s.slots (g.D.Driver.sessions c.args.dev.now) s.hands.items s.saved.items _ _ p c.requires.laden in
    record {
      fresh = ((g.D.Driver.sessions c.args.dev.now, new, rw e.rest laden), rw e.rest (All-drop IsFresh n s.burst.ops c.requires.fresh));
    }

pub returns-clause-laden : goal.returns-clause-laden
returns-clause-laden g c =
    let s = c.args.carrier.now in
    let e = c.enqueue_burst.ensures in
    let n = c.enqueue_burst.result in
    let old = g.D.Driver.held c.args.dev.now in
    let new = g.D.Driver.held c.enqueue_burst.new.self in
    let p = went_in entry_of n s.burst.ops old new e.held in
    let laden = carried_permutation s.index s.slots (g.D.Driver.sessions c.args.dev.now) s.hands.items s.saved.items _ _ p c.requires.laden in
    rw e.sessions (c.give_back_all.ensures.unloads.laden (g.D.Driver.sessions c.args.dev.now) new (rw e.rest laden))

pub returns-clause-counts : goal.returns-clause-counts
returns-clause-counts g c =
    let s = c.args.carrier.now in
    let d = c.args.dev.now in
    let e = c.enqueue_burst.ensures in
    let n = c.enqueue_burst.result in
    let old = g.D.Driver.held d in
    let new = g.D.Driver.held c.enqueue_burst.new.self in
    let room = g.D.Device.limit d - length old in
    let most = c.len-most.result in
    let within : n ≤ length s.burst.ops = omega (arith, e.offered) in
    let left = ap (λ (b : Burst Flying). length b.ops) e.rest in
    let fewer = length-drop n s.burst.ops in
    let told = g.met.D.Driver.room_admits d room (lens most s.burst) (g.met.D.Device.room_told d) in
    let size : length (lens most s.burst) ≡ length s.burst.ops = length-map (take most s.burst.ops) (λ op. data_len_of op.spec) ∙ (let t = length-take most s.burst.ops in omega (arith, t, c.len-most.ensures)) in
    counts_offered (g.D.Device.limit d) (length old) (g.D.Driver.stalls d) (length s.burst.ops) c.len-left.result n (length new) (g.D.Driver.stalls c.enqueue_burst.new.self) within
    (omega (arith, left, fewer, within, c.len-left.ensures)) (more_held entry_of s.burst.ops old new n e.held within) e.stalls
    (λ less. e.cause (min (length (lens most s.burst)) room) told (omega (arith, less, size)))

pub returns-clause-enqueued : goal.returns-clause-enqueued
returns-clause-enqueued g c k is =
    let s = c.args.carrier.now in
    let e = c.enqueue_burst.ensures in
    let n = c.enqueue_burst.result in
    let old = g.D.Driver.held c.args.dev.now in
    let new = g.D.Driver.held c.enqueue_burst.new.self in
    let within : n ≤ length s.burst.ops = omega (arith, e.offered) in
    capped_more k _ _ (length old) (length new) n (ap (λ (x : Stats). x.enqueued) e.stats) (more_held entry_of s.burst.ops old new n e.held within) is
