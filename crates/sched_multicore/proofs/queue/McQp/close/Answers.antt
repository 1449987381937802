use Rattle.std.proofs.Common.{arith, ap, sym, subst, ◌∙◌, ◌≡◌, ◌+◌, [], List, length, ℕ, Some}
use Rattle.std.specs.Prelude.{slice_index_or, slice_get}
use Rattle.std.proofs.lemmas.Option.{slice_get_within}
use Rattle.flight_table.specs.View.{times}
use Rattle.flight_table.specs.Call.{Desk}
use Rattle.sched_multicore.specs.declared.place.Place.{Place}
use Rattle.sched_multicore.specs.Place.{outstanding}
use Rattle.sched_multicore.specs.Queue.{Queue, collected_of}
use Rattle.sched_multicore.proofs.Lists.{get_index}
use Rattle.sched_multicore.proofs.Tally.{total_none, sum_hands, key_at}
use Rattle.sched_multicore.proofs.Places.{none_left}
use Rattle.sched_multicore.proofs.queue.McQp.close.Goals as goal

pub close-requires-clause-hands : goal.close-requires-clause-hands
close-requires-clause-hands g c k d lt =
    let h = (key_at _ c.args.hands.items 0 _ c.requires.hands).1 k (slice_index_or c.args.hands.items k d) (get_index c.args.hands.items k d lt) in
    h.0 ∙ sym (ap (λ q. q.desk.table) c.trim.ensures.trimmed.same) ∙ sym (ap (λ q. q.desk.table) c.self.view_is)

pub close-requires-clause-all : goal.close-requires-clause-all
close-requires-clause-all g c k lt =
    let none : c.self.inside.places.items ≡ [] = ap (λ q. q.places) c.self.view_is ∙ none_left c.trim.new.self.places c.trim.ensures.begins (c.trim.ensures.trimmed.pending ∙ c.requires.pending) in
    let len = ap (λ (l : List (Place g.row.C.Denot)). length l) none in
    c.self.invariant.0.placing.others k lt (λ i li. absurd (omega (arith, len, li)))

pub returns : goal.returns
returns g c =
    let h = c.self.invariant.0 in
    let q = c.self.inside in
    let hands = c.args.hands.items in
    let v = c.self.view_is ∙ c.trim.ensures.trimmed.same in
    let none : q.places.items ≡ [] = ap (λ q. q.places) c.self.view_is ∙ none_left c.trim.new.self.places c.trim.ensures.begins (c.trim.ensures.trimmed.pending ∙ c.requires.pending) in
    let keys = key_at _ hands 0 _ c.requires.hands in
    let each : (w : ℕ) (d : Desk) → slice_get hands w ≡ Some d → d.view.finished ≡ times (0 + w) q.owner.view.collected = λ w d at.
    let within = slice_get_within hands w d at in
    let e : slice_index_or hands w d ≡ d = let s = sym (get_index hands w d within) ∙ at in cc in
    let f = c.close.ensures w d within in
    let who : d.view.worker ≡ 0 + w = (keys.1 w d at).1 in
    subst (λ (x : Desk). x.view.finished ≡ times x.view.worker q.owner.view.collected) e f ∙ ap (λ z. times z q.owner.view.collected) who in
    let sum = sum_hands q.owner.view.collected hands 0 each in
    let zero' = total_none q.loads.items (λ w lt. (h.loaded w lt).0 ∙ ap (λ (l : List (Place g.row.C.Denot)). outstanding w l) none) in
    let n = ap (λ z. collected_of q.owner.view.collected z) {x = 0 + length hands} {y = length q.loads.items} (omega (arith, keys.0, ap (λ (z : Queue g.row.C.Denot). length z.loads) v)) in
    let helped = ap (λ (z : Queue g.row.C.Denot). z.helped) v in
    let drawn = ap (λ (z : Queue g.row.C.Denot). length z.book.drawn) v in
    omega (arith, sum, zero', n, helped, drawn, h.tally)
