use Rattle.std.proofs.Common.{◌≡◌, ◌<◌, ◌≤◌, ◌-◌, ◌++◌, [], length, drop, map, min, ap, ◌∙◌, sym, subst, arith}
use Rattle.std.specs.Prelude.{slice_set, slice_index_or}
use Rattle.std.specs.List.{All}
use Rattle.std.proofs.lemmas.List.{length-map, length-drop, map-append}
use Rattle.std.proofs.lemmas.List.Elements.{All-append}
use Rattle.crypto_op.specs.Op.{IsDone, entry_of}
use Rattle.crypto_op.specs.Burst.{Burst}
use Rattle.crypto_model.specs.Counts.{Rose}
use Rattle.dev_core.specs.Burst.{added, room_of}
use Rattle.sched_modes.specs.Workers.{Goes, together}
use Rattle.sched_modes.proofs.Held.{behind_more, given_more, held_out, same_at, up_to}
use Rattle.sched_modes.proofs.Given.{gave_less, kept_more, rose_later}
use Rattle.sched_modes.proofs.Goings.{goes_out, serves_more}
use Rattle.sched_modes.proofs.draw.gather.Goals as goal

pub loop-i-preserved : goal.loop-i-preserved
loop-i-preserved g c =
    let m = g.D.Driver in
    let held = m.held in
    let stalls = m.stalls in
    let devs0 = c.args.devs.now.items in
    let devs = c.loop-i.devs.items in
    let i = c.loop-i.i in
    let d = c.index_mut-worker.result.now in
    let d' = c.dequeue_burst-n.new.self in
    let o0 = c.args.out.now in
    let o = c.loop-i.out in
    let o' = c.dequeue_burst-n.new.out in
    let xs = added o o' in
    let n = c.loop-i.n in
    let k = c.dequeue_burst-n.result in
    let w = c.args.workers in
    let now = c.loop-i.invariant in
    let got = c.dequeue_burst-n.ensures in
    let e = c.index_mut-worker.ensures.value in
    let h : i < length devs = omega (arith, c.loop-i-test.true, c.requires.workers, now.len, c.loop-i.devs.ok.0) in
    let all : o'.ops ≡ o.ops ++ xs = ap (λ (b : Burst _). b.ops) got.kept in
    let drops : added o0 o' ≡ added o0 o ++ xs = ap (drop (length o0.ops)) all ∙ behind_more o0.ops o.ops xs n now.count in
    let cap : o.cap ≡ o0.cap = ap (λ (b : Burst _). b.cap) now.kept in
    let len : length xs ≡ k = omega (arith, length-drop (length o.ops) o'.ops, got.count) in
    let goes : Goes m [] d d' = goes_out m d d' k (min (c.args.asked - n) (room_of o)) (map entry_of xs) got.follows got.stalls got.sessions got.room got.stats got.log got.held (length-map xs entry_of ∙ len) in
    record {
      within = omega (arith, got.within, now.within);
      kept = kept_more o0 o o' n now.kept got.kept now.count;
      count = omega (arith, got.count, now.count);
      held = rw (drops, map-append) (given_more (map entry_of (added o0 o)) (map entry_of xs) (together m w devs) (together m w (slice_set devs i d')) (together m w devs0) now.held
          (held_out held devs w i d d' (map entry_of xs) c.loop-i-test.true h e got.held));
      done = λ sessions alike.
          let own : m.sessions d ≡ sessions = ap m.sessions (sym (same_at devs i d d h e)) ∙ ((now.serves.each i d).sessions ∙ alike i d c.loop-i-test.true) in
          rw drops (All-append (IsDone sessions) (added o0 o) xs (now.done sessions alike) (subst (λ u. All (IsDone u) xs) own got.done));
      serves = serves_more m g.met.D.Driver.follows_itself g.met.D.Driver.follows_on w devs0 devs i d d' c.loop-i-test.true h e goes now.serves;
      stalled = λ less. up_to (λ a b. 0 < length (held b) → Rose (stalls a) (stalls b)) devs0 devs i d' h (now.stalled (omega (arith, less)))
          (λ x some. rose_later (stalls (slice_index_or devs0 i x)) (stalls d) (stalls d')
          (subst (λ y. stalls (slice_index_or devs0 i x) ≤ stalls y) (same_at devs i d x h e) (now.serves.each i x).took.stalls)
          (gave_less (map entry_of xs) (held d') (held d) k (c.args.asked - n) (room_of o) (Rose (stalls d) (stalls d')) got.held (length-map xs entry_of ∙ len)
          (omega (arith, cap, now.count, c.requires.room)) (omega (arith, less)) got.cause some));
      len = now.len;
    }
