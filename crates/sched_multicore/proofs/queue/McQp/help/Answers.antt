use Rattle.std.proofs.Common.{arith, ap, sym, ◌+◌, subst}
use Rattle.sched_multicore.specs.Step.{IsIdle, IsBusy, as_count}
use Rattle.sched_multicore.proofs.Helps.{Helping, helping_none, helping_helped, helping_looked}
use Rattle.sched_multicore.proofs.queue.McQp.help.Goals.{in-Ok-true, in-Ok-false, in-Err}
use Rattle.sched_multicore.proofs.queue.McQp.help.Goals as goal

pub loop-i-init : goal.loop-i-init
loop-i-init g c = record { number = omega arith; helping = helping_none IsIdle IsBusy _ }

pub loop-i-preserved : goal.loop-i-preserved
loop-i-preserved g c =
    let v = c.loop-i.invariant in
    let q = c.args.self.now in
    let r = c.loop-i.self in
    let s = c.help_at.new.self in
    let i = c.loop-i.i in
    let n = c.match-help_at.n in
    elim c.match-help_at.branch [
      | in-Ok-true w ↦
          record {
            number = omega (arith, w.n-is, v.number, c.if-n-max.false);
            helping = subst (λ m. Helping IsIdle IsBusy q s m (i + 1)) {x = c.loop-i.n + as_count w.in-Ok-true.field-0} {y = n} (omega (arith, w.n-is, ap (λ b. as_count b) w.in-Ok-true.field-0-test))
                (helping_helped IsIdle IsBusy q r s c.loop-i.n i w.in-Ok-true.field-0 v.helping w.in-Ok-true.ensures.ok);
          }
      | in-Ok-false w ↦
          record {
            number = omega (arith, w.n-is, v.number);
            helping = subst (λ m. Helping IsIdle IsBusy q s m (i + 1)) {x = c.loop-i.n + as_count w.in-Ok-false.field-0} {y = n} (omega (arith, w.n-is, ap (λ b. as_count b) w.in-Ok-false.field-0-test))
                (helping_helped IsIdle IsBusy q r s c.loop-i.n i w.in-Ok-false.field-0 v.helping w.in-Ok-false.ensures.ok);
          }
      | in-Err w ↦
          record {
            number = omega (arith, w.n-is, v.number);
            helping = subst (λ m. Helping IsIdle IsBusy q s m (i + 1)) (sym w.n-is) (helping_looked IsIdle IsBusy q r s c.loop-i.n i w.in-Err.field-0 v.helping w.in-Err.ensures.err.0 w.in-Err.ensures.err.1);
          }
    ]
