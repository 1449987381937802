use Rattle.std.proofs.Common.{arith, ap, sym, refl, subst, ◌∙◌, ◌≡◌, ◌<◌, ◌+◌, Some, length}
use Rattle.std.specs.Prelude.{slice_get}
use Rattle.sched_multicore.specs.declared.place.Place.TheVariants.{Gone}
use Rattle.sched_multicore.specs.Place.{IsPending}
use Rattle.sched_multicore.specs.Queue.{Queue}
use Rattle.sched_multicore.specs.Step.{Brought, Bagged, IsAwaited, FirstWord}
use Rattle.sched_multicore.proofs.Places.{all_gone}
use Rattle.sched_multicore.proofs.Helps.{each_kept, each_saw, same_stays, same_others}
use Rattle.sched_multicore.proofs.Bags.{bagged_none, bagged_next, bagged_looked, brings_stays, brings_others, brings_gone, brings_length, gone_not, first_gone, first_looked}
use Rattle.sched_multicore.proofs.queue.McQp.dequeue_any.Goals.{in-Ok-Some, in-Ok-None, in-Err}
use Rattle.sched_multicore.proofs.queue.McQp.dequeue_any.Goals as goal

pub loop-i-init : goal.loop-i-init
loop-i-init g c = record { number = omega arith; bagged = bagged_none _ _; places = refl; each = λ i x lt. absurd (omega (arith, lt)); first = λ j lt. absurd (omega (arith, lt)) }

pub loop-i-preserved : goal.loop-i-preserved
loop-i-preserved g c =
    let v = c.loop-i.invariant in
    let q = c.args.self.now in
    let r = c.loop-i.self in
    let s = c.collect_at.new.self in
    let i = c.loop-i.i in
    let m = c.match-collect_at in
    let len : c.len-i-end.result ≡ length q.places = c.len-i-end.ensures ∙ c.self.invariant.3 ∙ ap (λ q. length q.places) c.self.view_is in
    let lt : i < length r.places = omega (arith, v.places, len, c.loop-i-test.true, c.loop-i.auto.i-end) in
    elim m.branch [
      | in-Ok-Some w ↦
          let b = subst (λ x. Brought r i x s) w.in-Ok-Some.field-0-is w.in-Ok-Some.ensures.ok in
          let gone = brings_gone r s i w.in-Ok-Some.op lt b in
          let stays = brings_stays r s i w.in-Ok-Some.op b in
          let others = brings_others r s i w.in-Ok-Some.op b in
          let same = brings_length r s i w.in-Ok-Some.op b in
          record {
            number = omega (arith, w.n-is, v.number, c.if-n-most.false);
            bagged = subst (λ n. Bagged q c.args.out.now n s m.out) (sym w.n-is) (bagged_next q r s c.args.out.now c.loop-i.out m.out c.loop-i.n i w.in-Ok-Some.op v.bagged b (w.out-is ∙ w.push.ensures));
            places = same ∙ v.places;
            each = each_kept IsPending IsAwaited q r s i v.each stays others (gone_not s i gone);
            first = subst (λ z. FirstWord q s (i + 1) z) (sym w.word-is) (first_gone q r s i c.loop-i.word v.first stays others gone);
          }
      | in-Ok-None w ↦
          let b = subst (λ x. Brought r i x s) w.in-Ok-None.field-0-is w.in-Ok-None.ensures.ok in
          let gone : slice_get s.places i ≡ Some Gone = ap (λ z. slice_get z.places i) b.0 ∙ b.1 in
          let stays = same_stays r s b.0 in
          let others = same_others r s i b.0 in
          record {
            number = omega (arith, w.n-is, v.number);
            bagged = subst (λ n. Bagged q c.args.out.now n s m.out) (sym w.n-is) (subst (λ p. Bagged q c.args.out.now c.loop-i.n s p) (sym w.out-is) (subst (λ (z : Queue g.row.C.Denot). Bagged q c.args.out.now c.loop-i.n z c.loop-i.out) (sym b.0) v.bagged));
            places = ap (λ z. length z.places) b.0 ∙ v.places;
            each = each_kept IsPending IsAwaited q r s i v.each stays others (gone_not s i gone);
            first = subst (λ z. FirstWord q s (i + 1) z) (sym w.word-is) (first_gone q r s i c.loop-i.word v.first stays others gone);
          }
      | in-Err w ↦
          let b = w.in-Err.ensures.err in
          let l = v.bagged.gave.looks in
          record {
            number = omega (arith, w.n-is, v.number);
            bagged = subst (λ n. Bagged q c.args.out.now n s m.out) (sym w.n-is) (subst (λ p. Bagged q c.args.out.now c.loop-i.n s p) (sym w.out-is) (bagged_looked q r s c.args.out.now c.loop-i.out c.loop-i.n i w.in-Err.w v.bagged b.0));
            places = ap (λ z. length z.places) b.0.same ∙ v.places;
            each = each_saw IsPending IsAwaited q r s i w.in-Err.w v.each l b.0 b.1;
            first = subst (λ z. FirstWord q s (i + 1) z) (sym w.word-is) (first_looked q r s i w.in-Err.w w.earlier.result b.2.0 c.loop-i.word v.first l b.0 b.1 b.2.1 w.earlier.ensures);
          }
    ]

pub returns-in-None-clause-stop : goal.returns-in-None-clause-stop
returns-in-None-clause-stop g c =
    let v = c.loop-i.invariant in
    let len : c.len-i-end.result ≡ length c.args.self.now.places = c.len-i-end.ensures ∙ c.self.invariant.3 ∙ ap (λ q. length q.places) c.self.view_is in
    let first = subst (λ z. FirstWord c.args.self.now c.loop-i.self c.loop-i.i z) c.in-None.is v.first in
    (omega (arith, v.number, c.if-n-most-2.false, c.min-most.ensures, c.room.ensures), all_gone c.loop-i.self.places (λ j lt. first j (omega (arith, lt, v.places, len, c.loop-i-test.false, c.loop-i.auto.i-end))))

pub returns-in-Some-clause-stop : goal.returns-in-Some-clause-stop
returns-in-Some-clause-stop g c =
    let v = c.loop-i.invariant in
    let len : c.len-i-end.result ≡ length c.args.self.now.places = c.len-i-end.ensures ∙ c.self.invariant.3 ∙ ap (λ q. length q.places) c.self.view_is in
    let first = subst (λ z. FirstWord c.args.self.now c.loop-i.self c.loop-i.i z) c.in-Some.is v.first in
    (omega (arith, v.number, c.if-n-most-2.false, c.min-most.ensures, c.room.ensures), first.0, λ u i x lt at a. v.each i x (omega (arith, lt, v.places, len, c.loop-i-test.false, c.loop-i.auto.i-end)) at a)
