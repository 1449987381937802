use Rattle.std.proofs.Common.{arith, ap, sym, subst, ◌∙◌, ◌<◌, ◌-◌, length, List, take, drop}
use Rattle.std.specs.List.{All}
use Rattle.std.proofs.lemmas.List.{length-drop}
use Rattle.crypto_op.specs.declared.op.Op.{Op}
use Rattle.crypto_op.specs.Op.{IsFresh}
use Rattle.sched_multicore.specs.Step.{Heaped}
use Rattle.sched_multicore.proofs.Lists.{all_behind, drop_and}
use Rattle.sched_multicore.proofs.Bursts.{spread_next, loads_next, full_next, more_next, deals_end}
use Rattle.sched_multicore.proofs.queue.McQp.spread.Goals as goal

pub give-n-requires-clause-ops : goal.give-n-requires-clause-ops
give-n-requires-clause-ops g c =
    let i = c.loop-w.invariant in
    let ops = c.args.burst.now.ops in
    let n = c.loop-w.n in
    let d = ap (λ b. length b.ops) i.rest ∙ length-drop n ops in (
      omega (arith, d, i.number, c.requires.ops.0),
      subst (λ (b : List (Op g.row.C.Denot)). All IsFresh (take (c.args.most - n) b)) (sym (ap (λ b. b.ops) i.rest)) (all_behind IsFresh ops n c.args.most (c.args.most - n) (omega (arith, i.number)) c.requires.ops.1),
    )

pub loop-w-preserved : goal.loop-w-preserved
loop-w-preserved g c =
    let i = c.loop-w.invariant in
    let ops = c.args.burst.now.ops in
    let n = c.loop-w.n in
    let m = c.give-n.result in
    let w = c.loop-w.w in
    let e = c.give-n.ensures in
    let gave = subst (λ (l : List (Op g.row.C.Denot)). Heaped c.loop-w.self (take m l) w c.give-n.new.self) (ap (λ b. b.ops) i.rest) e.heaped in
    let lt : w < length c.args.self.now.loads = omega (arith, c.loop-w-test.true, c.requires.workers) in
    let ws = ap (λ z. z.workers) i.spread.setting in
    record {
      number = omega (arith, e.number, i.number);
      rest = e.rest ∙ (λ j. record { cap = ap (λ b. b.cap) i.rest j; ops = (ap (λ b. drop m b.ops) i.rest ∙ drop_and ops n m) j });
      spread = spread_next _ _ _ ops n m c.args.most w lt i.number c.requires.ops.0 i.spread gave e.number e.within;
      loads = loads_next _ _ _ ops n m c.args.most w c.args.to c.loop-w-test.true i.number c.requires.ops.0 i.spread gave e.number ∙ i.loads;
      full = full_next _ _ _ ops n m c.args.most c.args.from w lt i.number c.requires.ops.0 i.spread gave e.number e.within i.full;
      more = λ v. let x = more_next _ _ _ w v (omega (arith, lt, ws)) gave in let y = i.more v in omega (arith, x, y);
    }

pub returns-clause-loads : goal.returns-clause-loads
returns-clause-loads g c = deals_end c.args.self.now.quota c.loop-w.w c.args.to _ _ (omega (arith, c.loop-w-test.false, c.loop-w.auto)) c.loop-w.invariant.loads
