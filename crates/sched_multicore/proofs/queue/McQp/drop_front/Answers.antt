use Rattle.std.proofs.Common.{arith, ap, sym, subst, ◌∙◌, ◌≡◌, ◌≤◌, ◌∷◌, None, length, List}
use Rattle.std.specs.Prelude.{slice_get}
use Rattle.sched_multicore.specs.declared.place.Place.{Place}
use Rattle.sched_multicore.specs.declared.place.Place.TheVariants.{Gone}
use Rattle.sched_multicore.proofs.Sounds.{sound_dropped}
use Rattle.sched_multicore.proofs.queue.McQp.drop_front.Goals as goal

pub invariant_of-self : goal.invariant_of-self
invariant_of-self g c =
    let i = c.self.invariant in
    let r = c.in-Some.ensures in
    let xs = c.pop_front.new.self.items in
    let gone : c.in-Some.place ≡ Gone = let s = sym (ap (λ (l : List (Place g.row.C.Denot)). slice_get l 0) r.items) ∙ ap (λ z. slice_get z.places 0) c.self.view_is ∙ c.requires in cc in
    let e = r.items ∙ ap (λ x. x ∷ xs) gone in
    let l = ap (λ (l : List (Place g.row.C.Denot)). length l) e in
    (sound_dropped _ None xs i.0 e, i.1, subst (λ z. c.self.inside.slots ≤ z) (sym r.capacity) i.2, omega (arith, r.cases, i.3, l), i.4)
