use Rattle.std.proofs.Common.{◌≡◌, length, ap, arith}
use Rattle.crypto_op.specs.Burst.{Burst}
use Rattle.event_adapter.specs.declared.event.Event.{Event}
use Rattle.event_adapter.proofs.Loops.{least_within}
use Rattle.event_adapter.proofs.dealing.take_in.Goals as goal

pub returns-clause-cause : goal.returns-clause-cause
returns-clause-cause g c =
    let w = least_within c.args.pairs.now.items in
    let cap : c.args.taken.now.cap ≡ 32 = ap (λ (b : Burst (Event _)). b.cap) c.requires.empty in
    let none : length c.args.taken.now.ops ≡ 0 = ap (λ (b : Burst (Event _)). length b.ops) c.requires.empty in
    λ less. c.dequeue_burst-n.ensures.cause (omega (arith, w, cap, none, less, c.lower-most.ensures, c.room-room.ensures, c.requires.cap, c.least_in_room-least.ensures))

pub returns-clause-told : goal.returns-clause-told
returns-clause-told g c =
    let w = least_within c.args.pairs.now.items in
    let cap : c.args.taken.now.cap ≡ 32 = ap (λ (b : Burst (Event _)). b.cap) c.requires.empty in
    let none : length c.args.taken.now.ops ≡ 0 = ap (λ (b : Burst (Event _)). length b.ops) c.requires.empty in
    λ s e. let t = c.dequeue_burst-n.ensures.told s e in omega (arith, w, cap, none, t, c.lower-most.ensures, c.room-room.ensures, c.requires.cap, c.least_in_room-least.ensures)
