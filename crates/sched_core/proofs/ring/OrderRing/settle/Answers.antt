use Rattle.std.proofs.Common.{◌<◌, ◌+◌, ◌-◌, ◌%◌, ◌^◌, ◌≡◌, length, get_or, ap, ◌∙◌, sym, arith, rules}
use Rattle.crypto_op.specs.Op.{moved_to}
use Rattle.sched_core.specs.Ring.{place, IsOpenAt}
use Rattle.sched_core.proofs.Slots.{open_below, not_settled, set_settled}
use Rattle.sched_core.proofs.ring.OrderRing.settle.Goals as goal

pub index_mut-slot-requires : goal.index_mut-slot-requires
index_mut-slot-requires g c =
    let b = open_below c.self.inside.slots.items ((c.args.op.spec.pos + (2 ^ 64 - c.self.inside.first)) % 2 ^ 64) (rw (← c.self.view_is) at c.requires) in
    rw (c.spec.ensures, c.self.inside.slots.ok.0) b

pub unreachable-requires : goal.unreachable-requires
unreachable-requires g c =
    not_settled c.self.inside.slots.items ((c.args.op.spec.pos + (2 ^ 64 - c.self.inside.first)) % 2 ^ 64) c.index_mut-slot.result.now c.in_default.field-0 (rw (← c.self.view_is) at c.requires) (rw c.spec.ensures at c.index_mut-slot.ensures.value) c.in_default.is

pub returns : goal.returns
returns g c =
    let i = (c.args.op.spec.pos + (2 ^ 64 - c.self.inside.first)) % 2 ^ 64 in
    let b = open_below c.self.inside.slots.items i (rw (← c.self.view_is) at c.requires) in
    let e = set_settled c.self.inside.slots.items i c.in-Open.saved c.index_mut-slot.result.now c.args.op b (rw c.spec.ensures at c.index_mut-slot.ensures.value) c.in-Open.is in
    rw (← c.self.view_is, c.spec.ensures, c.set_pos.ensures) (ap (λ l. record { cap = c.self.inside.cap; first = c.self.inside.first; slots = l }) e)
