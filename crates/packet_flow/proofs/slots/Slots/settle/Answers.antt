use Rattle.std.proofs.Common.{◌∷◌, List, ap, sym, subst, ◌∙◌, arith}
use Rattle.std.specs.Prelude.{Some}
use Rattle.crypto_op.specs.declared.spec.Card.{Card}
use Rattle.crypto_op.specs.Op.{entry_of}
use Rattle.packet_plan.specs.Work.{written_view}
use Rattle.packet_flow.specs.Laid.{laid_out}
use Rattle.packet_flow.specs.Seats.{AllIn, Seat}
use Rattle.packet_flow.specs.Slots.{StandFor}
use Rattle.packet_flow.proofs.Settling.{asked_there, kept_is, numbered_own, place_inside, rising_rooms, room_there, settled_order, settled_room, slot_is}
use Rattle.packet_flow.proofs.slots.Slots.settle.Goals as goal

pub place_of-place-requires-clause-rising : goal.place_of-place-requires-clause-rising
place_of-place-requires-clause-rising g c =
    let s = c.requires.stand in
    let b = subst (λ (l : List Seat). StandFor c.args.plan.now s.0 l (entry_of c.args.op ∷ s.1)) (sym c.self.view_is) s.2 in
    rising_rooms c.args.plan.now s.0 c.self.inside.slots.items (entry_of c.args.op) s.1 b

pub place_of-place-requires-clause-there : goal.place_of-place-requires-clause-there
place_of-place-requires-clause-there g c =
    let s = c.requires.stand in
    let b = subst (λ (l : List Seat). StandFor c.args.plan.now s.0 l (entry_of c.args.op ∷ s.1)) (sym c.self.view_is) s.2 in
    let r = room_there c.args.plan.now s.0 c.self.inside.slots.items (entry_of c.args.op) s.1 b in
    (r.0, r.1 ∙ ap (λ (k : Card). Some k.packet) (sym c.cargo.ensures))

pub index-requires : goal.index-requires
index-requires g c =
    let s = c.requires.stand in
    let b = subst (λ (l : List Seat). StandFor c.args.plan.now s.0 l (entry_of c.args.op ∷ s.1)) (sym c.self.view_is) s.2 in
    let at = c.place_of-place.ensures ∙ ap (λ (k : Card). Some k.packet) c.cargo.ensures in
    omega (arith, place_inside c.args.plan.now s.0 c.self.inside.slots.items (entry_of c.args.op) s.1 b c.place_of-place.result at, c.self.inside.slots.ok.0)

pub finish-written-requires-clause-asked : goal.finish-written-requires-clause-asked
finish-written-requires-clause-asked g c =
    let s = c.requires.stand in
    let ss = c.self.inside.slots.items in
    let e = entry_of c.args.op in
    let b = subst (λ (l : List Seat). StandFor c.args.plan.now s.0 l (e ∷ s.1)) (sym c.self.view_is) s.2 in
    let at = c.place_of-place.ensures ∙ ap (λ (k : Card). Some k.packet) c.cargo.ensures in
    let x = c.index.result.now in
    asked_there c.args.plan.now s.0 (laid_out ss) e s.1 b c.in-Open.kept
    (kept_is c.args.plan.now s.0 ss e s.1 b c.place_of-place.result at x x c.in-Open.number c.in-Open.kept c.index.ensures c.in-Open.is)

pub unreachable-requires : goal.unreachable-requires
unreachable-requires g c =
    let s = c.requires.stand in
    let b = subst (λ (l : List Seat). StandFor c.args.plan.now s.0 l (entry_of c.args.op ∷ s.1)) (sym c.self.view_is) s.2 in
    let at = c.place_of-place.ensures ∙ ap (λ (k : Card). Some k.packet) c.cargo.ensures in
    let x = c.index.result.now in
    c.in_default.not-Open _ _ (slot_is c.args.plan.now s.0 c.self.inside.slots.items (entry_of c.args.op) s.1 b c.place_of-place.result at x x c.index.ensures)

pub index-requires-else-place-eq0 : goal.index-requires-else-place-eq0
index-requires-else-place-eq0 g c =
    let s = c.requires.stand in
    let b = subst (λ (l : List Seat). StandFor c.args.plan.now s.0 l (entry_of c.args.op ∷ s.1)) (sym c.self.view_is) s.2 in
    let at = c.place_of-place.ensures ∙ ap (λ (k : Card). Some k.packet) c.cargo.ensures in
    omega (arith, place_inside c.args.plan.now s.0 c.self.inside.slots.items (entry_of c.args.op) s.1 b c.place_of-place.result at, c.self.inside.slots.ok.0)

pub index_mut-requires : goal.index_mut-requires
index_mut-requires g c =
    let s = c.requires.stand in
    let b = subst (λ (l : List Seat). StandFor c.args.plan.now s.0 l (entry_of c.args.op ∷ s.1)) (sym c.self.view_is) s.2 in
    let at = c.place_of-place.ensures ∙ ap (λ (k : Card). Some k.packet) c.cargo.ensures in
    omega (arith, place_inside c.args.plan.now s.0 c.self.inside.slots.items (entry_of c.args.op) s.1 b c.place_of-place.result at, c.self.inside.slots.ok.0)

pub returns-clause-stand : goal.returns-clause-stand
returns-clause-stand g c ps rest stands =
    let ss = c.self.inside.slots.items in
    let e = entry_of c.args.op in
    let b = subst (λ (l : List Seat). StandFor c.args.plan.now ps l (e ∷ rest)) (sym c.self.view_is) stands in
    let at = c.place_of-place.ensures ∙ ap (λ (k : Card). Some k.packet) c.cargo.ensures in
    let place = c.place_of-place.result in
    let x = c.index.result.now in
    let kept = c.in-Open.kept in
    let s = c.answered_slot.result in
    let a = written_view c.finish-written.result in
    let own = numbered_own s c.args.header.now.big a _ e.cargo.packet (ap (λ (k : Card). k.packet) c.cargo.ensures) c.answered_slot.ensures in
    settled_room c.args.plan.now ps ss e rest b place at kept s a own.0 (kept_is c.args.plan.now ps ss e rest b place at x x c.in-Open.number kept c.index.ensures c.in-Open.is) own.1 c.finish-written.ensures

pub returns-clause-order : goal.returns-clause-order
returns-clause-order g c all =
    let r = c.requires.stand in
    let ss = c.self.inside.slots.items in
    let e = entry_of c.args.op in
    let big = c.args.header.now.big in
    let b = subst (λ (l : List Seat). StandFor c.args.plan.now r.0 l (e ∷ r.1)) (sym c.self.view_is) r.2 in
    let at = c.place_of-place.ensures ∙ ap (λ (k : Card). Some k.packet) c.cargo.ensures in
    let s = c.answered_slot.result in
    let a = written_view c.finish-written.result in
    let own = numbered_own s big a _ e.cargo.packet (ap (λ (k : Card). k.packet) c.cargo.ensures) c.answered_slot.ensures in
    settled_order c.args.plan.now r.0 ss e r.1 b c.place_of-place.result at big s a own.0 own.1 own.2 (subst (AllIn big) (sym c.self.view_is) all)
