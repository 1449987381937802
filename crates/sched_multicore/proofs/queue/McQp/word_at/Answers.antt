use Rattle.std.proofs.Common.{ap, refl, subst, ◌∙◌, ◌≡◌, ◌+◌, ◌%◌, ◌∷◌, [], ◌++◌, length}
use Rattle.std.specs.Prelude.{slice_get}
use Rattle.flight_table.specs.View.{look}
use Rattle.sched_multicore.specs.Queue.{Queue}
use Rattle.sched_multicore.specs.Step.{LookedAt}
use Rattle.sched_multicore.proofs.Looks.{back_or, is_out}
use Rattle.sched_multicore.proofs.Sounds.{away_at}
use Rattle.sched_multicore.proofs.queue.McQp.word_at.Goals as goal

pub returns-clause-looked : goal.returns-clause-looked
returns-clause-looked g c =
    let q = c.self.inside in
    let n = c.look.result in
    let k = (q.first + c.args.i) % q.slots in
    let kk : k ≡ (q.first + c.args.i) % q.owner.slots = ap (λ z. (q.first + c.args.i) % z) c.self.invariant.1 in
    let e = c.look.ensures.looks in
    let looks = ap (λ d. d.view.looks) e in
    subst (λ (z : Queue g.row.C.Denot). LookedAt z c.args.i n (record { book = q.book; desk = c.look.new.self; places = q.places.items; first = q.first; quota = q.quota; loads = q.loads.items; turn = q.turn; ordering = q.ordering; helped = q.helped })) c.self.view_is
    (record {
      same = refl;
      setting = λ j. record { book = q.book.table; sessions = q.book.sessions; table = ap (λ d. d.table) e j; slots = ap (λ d. d.slots) e j; workers = length q.loads.items; quota = q.quota; ordering = q.ordering };
      saw = ([], [], looks ∙ ap (λ z. q.owner.view.looks ++ (z, n) ∷ []) kk);
    })

pub returns-clause-out : goal.returns-clause-out
returns-clause-out g c =
    let q = c.self.inside in
    let k = (q.first + c.args.i) % q.slots in
    let kk : k ≡ (q.first + c.args.i) % q.owner.slots = ap (λ z. (q.first + c.args.i) % z) c.self.invariant.1 in
    let y = c.requires in
    let at = away_at _ y.0 c.args.i c.self.invariant.0 (ap (λ z. slice_get z.places c.args.i) c.self.view_is ∙ y.1) in
    back_or c.look.result.phase (is_out q.owner.view k _ c.look.result (ap (λ z. look q.owner.view.given z) kk ∙ at.0) c.look.ensures.shown)
