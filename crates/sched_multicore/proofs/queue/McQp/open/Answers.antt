use Rattle.std.proofs.Common.{arith, ap, sym, refl, subst, ◌∙◌, List, length}
use Rattle.std.specs.Prelude.{map}
use Rattle.flight_table.specs.Call.{Desk}
use Rattle.sched_multicore.specs.declared.place.Place.{Place}
use Rattle.sched_multicore.specs.Queue.{Queue, Sound, key_of}
use Rattle.sched_multicore.proofs.Tally.{keys_of}
use Rattle.sched_multicore.proofs.Sounds.{sound_open}
use Rattle.sched_multicore.proofs.queue.McQp.open.Goals as goal

pub invariant_of-qp : goal.invariant_of-qp
invariant_of-qp g c =
    let b = c.in_ok-book.book in
    let o = c.in_ok-owner.ensures.owner in
    let ls = c.in_ok-loads.ensures.items_if_clones_equal (λ y e. e) in
    let xs = c.in_ok-places.ensures.items in
    let a = c.requires in
    let s = sound_open c.in_ok-owner.owner.table b c.args.workers c.args.quota c.args.slots c.args.ordering c.in_ok-loads.loads.items a.workers.0 a.workers.1 a.quota.1 a.slots.0 a.slots.1 c.in_ok-book.ensures.1 ls in (
      subst (λ (z : Queue g.row.C.Denot). Sound z) (λ j. record { book = b; desk = sym o j; places = sym xs j; first = 0; quota = c.args.quota; loads = c.in_ok-loads.loads.items; turn = 0; ordering = c.args.ordering; helped = 0 }) s,
      sym (ap (λ d. d.slots) o),
      omega (arith, c.in_ok-places.ensures.capacity),
      c.in_ok-places.ensures.len ∙ sym (ap (λ (l : List (Place g.row.C.Denot)). length l) xs),
      sym (c.in_ok-book.ensures.0 ∙ c.deref.ensures),
    )

pub returns : goal.returns
returns g c =
    let o = c.in_ok-owner.ensures in
    record {
      new = record {
        empty = (c.in_ok-places.ensures.items, c.in_ok-book.ensures.1, refl);
        sizes = (ap (λ d. d.slots) o.owner, refl, refl, refl);
        loads = c.in_ok-loads.ensures.items_if_clones_equal (λ y e. e);
        for_sessions = c.in_ok-book.ensures.0 ∙ c.deref.ensures;
        of_book = ap (λ d. d.view.about) o.owner;
      };
      hands = o.hands;
      keys = ap (λ (l : List Desk). map key_of l) o.hands ∙ keys_of c.in_ok-owner.owner.table c.args.slots c.in_ok-book.book c.args.workers;
    }
