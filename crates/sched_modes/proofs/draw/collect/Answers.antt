use Rattle.std.proofs.Common.{◌≡◌, ◌<◌, ◌≤◌, ◌++◌, [], length, map, min, ap, ◌∙◌, sym, subst, arith}
use Rattle.std.specs.Prelude.{slice_set, slice_index_or}
use Rattle.std.specs.List.{All}
use Rattle.std.specs.List.Sorted.{IsPermutation}
use Rattle.std.proofs.lemmas.List.{length-map}
use Rattle.crypto_op.specs.Op.{IsDone, entry_of}
use Rattle.crypto_op.specs.Burst.{Burst}
use Rattle.crypto_model.specs.Counts.{Rose}
use Rattle.dev_core.specs.Burst.{added, room_of}
use Rattle.sched_modes.specs.Workers.{Goes, together}
use Rattle.sched_modes.proofs.Held.{held_back, held_within, same_at, up_to}
use Rattle.sched_modes.proofs.Given.{all_behind, emptied, gave_all, rose_later}
use Rattle.sched_modes.proofs.Goings.{goes_out, serves_more}
use Rattle.sched_modes.proofs.Open.{length_held, pending_moved, sound_moved}
use Rattle.sched_modes.proofs.draw.collect.Goals as goal

pub settle_all-requires : goal.settle_all-requires
settle_all-requires g c =
    let held = g.D.Driver.held in
    let devs = c.loop-i.devs.items in
    let i = c.loop-i.i in
    let d = c.index_mut-worker.result.now in
    let d' = c.dequeue_burst.new.self in
    let o = c.loop-i.scratch in
    let o' = c.dequeue_burst.new.out in
    let w = c.args.workers in
    let none : o.ops ≡ [] = ap (λ (b : Burst _). b.ops) c.loop-i.invariant.scratch ∙ c.requires.empty in
    let p : IsPermutation (map entry_of o'.ops ++ held d') (held d) = rw (all_behind o o' none) at c.dequeue_burst.ensures.held in
    let h : i < length devs = omega (arith, c.loop-i-test.true, c.requires.workers, c.loop-i.invariant.len, c.loop-i.devs.ok.0) in (
      together g.D.Driver w (slice_set devs i d'),
      sound_moved c.loop-i.ring (together g.D.Driver w (slice_set devs i d') ++ map entry_of o'.ops) (together g.D.Driver w devs)
          (held_back held devs w i d d' (map entry_of o'.ops) c.loop-i-test.true h c.index_mut-worker.ensures.value p) c.loop-i.invariant.sound,
    )

pub loop-i-preserved : goal.loop-i-preserved
loop-i-preserved g c =
    let m = g.D.Driver in
    let held = m.held in
    let stalls = m.stalls in
    let devs0 = c.args.devs.now.items in
    let devs = c.loop-i.devs.items in
    let i = c.loop-i.i in
    let d = c.index_mut-worker.result.now in
    let d' = c.dequeue_burst.new.self in
    let o = c.loop-i.scratch in
    let o' = c.dequeue_burst.new.out in
    let w = c.args.workers in
    let r = c.loop-i.ring in
    let now = c.loop-i.invariant in
    let got = c.dequeue_burst.ensures in
    let e = c.index_mut-worker.ensures.value in
    let none : o.ops ≡ [] = ap (λ (b : Burst _). b.ops) now.scratch ∙ c.requires.empty in
    let cap : o.cap ≡ c.args.scratch.now.cap = ap (λ (b : Burst _). b.cap) now.scratch in
    let p : IsPermutation (map entry_of o'.ops ++ held d') (held d) = rw (all_behind o o' none) at got.held in
    let h : i < length devs = omega (arith, c.loop-i-test.true, c.requires.workers, now.len, c.loop-i.devs.ok.0) in
    let es = together m w (slice_set devs i d') in
    let back = held_back held devs w i d d' (map entry_of o'.ops) c.loop-i-test.true h e p in
    let moved = sound_moved r (es ++ map entry_of o'.ops) (together m w devs) back now.sound in
    let less : length (held d) ≤ o.cap = omega (arith, held_within held devs w i d c.loop-i-test.true h e, length_held r (together m w devs) now.sound.0, now.sound.1, now.ring.0, cap, c.requires.fits) in
    let n0 : length o.ops ≡ 0 = ap length none in
    let count : length (map entry_of o'.ops) ≡ c.dequeue_burst.result = length-map o'.ops entry_of ∙ omega (arith, got.count, n0) in
    let full : c.room-most.result ≡ o.cap = omega (arith, c.room-most.ensures, n0) in
    let goes : Goes m [] d d' = goes_out m d d' c.dequeue_burst.result (min c.room-most.result (room_of o)) (map entry_of o'.ops) got.follows got.stalls got.sessions got.room got.stats got.log p count in
    record {
      sound = (c.settle_all.ensures.back es moved).0;
      pending = (c.settle_all.ensures.back es moved).1 ∙ (pending_moved r (es ++ map entry_of o'.ops) (together m w devs) back now.sound ∙ now.pending);
      done = λ sessions alike slots.
          let own : m.sessions d ≡ sessions = ap m.sessions (sym (same_at devs i d d h e)) ∙ ((now.serves.each i d).sessions ∙ alike i d c.loop-i-test.true) in
          let answers : All (IsDone sessions) o'.ops = rw (all_behind o o' none, own) at got.done in
          c.settle_all.ensures.done sessions (now.done sessions alike slots) answers;
      ring = (c.settle_all.ensures.ring.0 ∙ now.ring.0, c.settle_all.ensures.ring.1 ∙ now.ring.1, c.settle_all.ensures.ring.2 ∙ now.ring.2);
      scratch = emptied c.args.scratch.now o o' c.settle_all.new.burst (added o o') c.requires.empty now.scratch got.kept c.settle_all.ensures.burst;
      serves = serves_more m g.met.D.Driver.follows_itself g.met.D.Driver.follows_on w devs0 devs i d d' c.loop-i-test.true h e goes now.serves;
      stalled = up_to (λ a b. 0 < length (held b) → Rose (stalls a) (stalls b)) devs0 devs i d' h now.stalled
          (λ x some. rose_later (stalls (slice_index_or devs0 i x)) (stalls d) (stalls d')
          (subst (λ y. stalls (slice_index_or devs0 i x) ≤ stalls y) (same_at devs i d x h e) (now.serves.each i x).took.stalls)
          (gave_all (map entry_of o'.ops) (held d') (held d) c.dequeue_burst.result o.cap (Rose (stalls d) (stalls d')) p count less
          (λ l. got.cause (omega (arith, l, full, n0))) some));
      len = now.len;
    }
