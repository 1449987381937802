use Rattle.std.proofs.Common.{◌≡◌, ◌+◌, ◌%◌, ◌^◌, ◌++◌, List, length, map, ap, ◌∙◌, sym, arith, length-append}
use Rattle.std.proofs.lemmas.List.{length-map}
use Rattle.std.proofs.lemmas.List.Sorted.{IsPermutation-refl}
use Rattle.crypto_op.specs.declared.op.Op.{Op}
use Rattle.crypto_op.specs.Op.{entry_of}
use Rattle.dev_core.specs.Burst.{added}
use Rattle.sched_core.specs.declared.ring.Slot.{Slot}
use Rattle.sched_core.specs.declared.ring.Slot.TheVariants.{Settled}
use Rattle.sched_core.specs.Ring.{Ring}
use Rattle.sched_core.specs.Pending.{pending_from}
use Rattle.sched_modes.specs.Workers.{Taken, pending_with, together}
use Rattle.sched_modes.proofs.Ahead.{taken_done, taken_pending, taken_sound}
use Rattle.sched_modes.proofs.draw.draw.Goals as goal

pub returns-in-Some-clause-in_order : goal.returns-in-Some-clause-in_order
returns-in-Some-clause-in_order g c _ =
    let es = together g.D.Driver c.args.workers c.collect.new.devs.items in
    rw c.in-Some.is (sym c.collect.ensures.pending ∙ taken_pending c.collect.new.ring c.give_front.new.ring (added c.args.out.now c.give_front.new.out) es c.give_front.ensures.taken)

pub returns-in-Some-clause-pending : goal.returns-in-Some-clause-pending
returns-in-Some-clause-pending g c =
    let es = together g.D.Driver c.args.workers c.collect.new.devs.items in
    let ops = added c.args.out.now c.give_front.new.out in
    let now = map entry_of ops ++ pending_from c.give_front.new.ring.first c.give_front.new.ring.slots es in
    let e : pending_with g.D.Driver c.args.ring.now c.args.workers c.args.devs.now.items ≡ now = rw c.in-Some.is (sym c.collect.ensures.pending ∙ taken_pending c.collect.new.ring c.give_front.new.ring ops es c.give_front.ensures.taken) in
    rw e (IsPermutation-refl now)

pub returns-in-Some-clause-done : goal.returns-in-Some-clause-done
returns-in-Some-clause-done g c sessions alike answered =
    (taken_done sessions c.collect.new.ring c.give_front.new.ring (added c.args.out.now c.give_front.new.out) c.give_front.ensures.taken (c.collect.ensures.done sessions alike (rw c.in-Some.is at answered))).0

pub returns-in-Some-clause-answered : goal.returns-in-Some-clause-answered
returns-in-Some-clause-answered g c sessions alike answered =
    (taken_done sessions c.collect.new.ring c.give_front.new.ring (added c.args.out.now c.give_front.new.out) c.give_front.ensures.taken (c.collect.ensures.done sessions alike (rw c.in-Some.is at answered))).1

pub returns-in-Some-clause-sound : goal.returns-in-Some-clause-sound
returns-in-Some-clause-sound g c =
    taken_sound c.collect.new.ring c.give_front.new.ring (added c.args.out.now c.give_front.new.out) (together g.D.Driver c.args.workers c.collect.new.devs.items) c.give_front.ensures.taken c.collect.ensures.sound

next_taken : {C : Type 0} (r s t : Ring (Slot C)) (ops : List (Op C)) → (s.cap ≡ r.cap) × (s.first ≡ r.first) × (length s.slots ≡ length r.slots) → Taken s t ops → (t.first + length t.slots) % 2 ^ 64 ≡ (r.first + length r.slots) % 2 ^ 64
next_taken r s t ops same taken =
    omega (arith, same.1, same.2, taken.2, ap length taken.0, length-append (map Settled ops) t.slots, length-map ops Settled)

pub returns-in-Some-clause-ring : goal.returns-in-Some-clause-ring
returns-in-Some-clause-ring g c =
    let taken = c.give_front.ensures.taken in
    rw c.in-Some.is (taken.1 ∙ c.collect.ensures.ring.0, next_taken c.in-Some.ring c.collect.new.ring c.give_front.new.ring (added c.args.out.now c.give_front.new.out) c.collect.ensures.ring taken)
