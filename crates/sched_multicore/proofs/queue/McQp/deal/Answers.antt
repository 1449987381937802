use Rattle.std.proofs.Common.{rules, arith, ap, sym, subst, ◌∙◌, ◌≡◌, ◌<◌, ◌-◌, length, List, take, drop, min}
use Rattle.std.specs.List.{All}
use Rattle.std.proofs.lemmas.List.{length-drop}
use Rattle.crypto_op.specs.declared.op.Op.{Op}
use Rattle.crypto_op.specs.Op.{IsFresh}
use Rattle.dev_core.specs.Burst.{offered}
use Rattle.sched_multicore.specs.Queue.{AreFull, after_workers}
use Rattle.sched_multicore.specs.Step.{Spread}
use Rattle.sched_multicore.proofs.Lists.{all_fewer, all_behind, drop_and, take_and}
use Rattle.sched_multicore.proofs.Bursts.{exact, spread_on}
use Rattle.sched_multicore.proofs.queue.McQp.deal.Goals as goal

pub spread-n-requires-clause-ops : goal.spread-n-requires-clause-ops
spread-n-requires-clause-ops g c =
    (omega (arith, c.min-most.ensures, c.min-offered.ensures, c.len.ensures), all_fewer IsFresh c.args.burst.now.ops c.min-most.result c.args.max (omega (arith, c.min-most.ensures, c.min-offered.ensures)) c.requires.fresh)

pub spread-requires-clause-ops : goal.spread-requires-clause-ops
spread-requires-clause-ops g c =
    let ops = c.args.burst.now.ops in
    let n = c.spread-n.result in
    let m = c.min-most.result - n in
    let e = c.spread-n.ensures in
    let rest = ap (λ b. b.ops) e.rest in
    let d = ap (λ (l : List (Op g.row.C.Denot)). length l) rest ∙ length-drop n ops in (
      omega (arith, d, c.min-most.ensures, c.min-offered.ensures, c.len.ensures),
      subst (λ (l : List (Op g.row.C.Denot)). All IsFresh (take m l)) (sym rest) (all_behind IsFresh ops n c.args.max m (omega (arith, e.number, c.min-most.ensures, c.min-offered.ensures)) c.requires.fresh),
    )

pub returns-clause-number : goal.returns-clause-number
returns-clause-number g c =
    let ops = c.args.burst.now.ops in
    let e = c.spread-n.ensures in
    let f = c.spread.ensures in
    let v = c.self.view_is in
    let rest = ap (λ b. b.ops) e.rest in
    let second = subst (λ (l : List (Op g.row.C.Denot)). Spread c.spread-n.new.self (take c.spread.result l) c.spread.new.self) rest f.spread in
    let workers : c.len-workers.result ≡ length c.args.self.now.loads = (search rules) ∙ ap (λ q. length q.loads) v in
    let x = (exact c.args.self.now _ _ ops c.spread-n.result c.spread.result c.min-most.result c.self.inside.turn e.spread second e.number f.number (omega (arith, c.min-most.ensures, c.min-offered.ensures, c.len.ensures))
    (subst (λ k. c.spread-n.result < c.min-most.result → AreFull c.spread-n.new.self.quota c.spread-n.new.self.loads c.self.inside.turn k) workers e.full) f.full f.more).1 in
    let slots = ap (λ q. q.desk.slots) v in
    let places = ap (λ q. length q.places) v in
    omega (arith, x, slots, places, c.len-2.ensures, c.self.invariant.1, c.self.invariant.3, c.min-most.ensures, c.min-offered.ensures, c.len.ensures)

pub returns-clause-rest : goal.returns-clause-rest
returns-clause-rest g c =
    let e = c.spread-n.ensures in
    let f = c.spread.ensures in
    f.rest ∙ (λ j. record { cap = ap (λ b. b.cap) e.rest j; ops = (ap (λ b. drop c.spread.result b.ops) e.rest ∙ drop_and c.args.burst.now.ops c.spread-n.result c.spread.result) j })

pub returns-clause-spread : goal.returns-clause-spread
returns-clause-spread g c =
    let ops = c.args.burst.now.ops in
    let e = c.spread-n.ensures in
    let f = c.spread.ensures in
    let second = subst (λ (l : List (Op g.row.C.Denot)). Spread c.spread-n.new.self (take c.spread.result l) c.spread.new.self) (ap (λ b. b.ops) e.rest) f.spread in
    subst (λ (l : List (Op g.row.C.Denot)). Spread c.args.self.now l c.spread.new.self) (sym (take_and ops c.spread-n.result c.spread.result))
    (spread_on _ _ _ (take c.spread-n.result ops) (take c.spread.result (drop c.spread-n.result ops)) e.spread second)

pub returns-clause-loads : goal.returns-clause-loads
returns-clause-loads g c =
    let q = c.args.self.now in
    let e = c.spread-n.ensures in
    let f = c.spread.ensures in
    let v = c.self.view_is in
    let turn = ap (λ q. q.turn) v in
    let workers : c.len-workers.result ≡ length q.loads = (search rules) ∙ ap (λ q. length q.loads) v in
    let slots = ap (λ q. q.desk.slots) v in
    let places = ap (λ q. length q.places) v in
    let most : c.min-most.result ≡ min (offered c.args.max c.args.burst.now) (q.desk.slots - length q.places) =
    omega (arith, slots, places, c.len-2.ensures, c.self.invariant.1, c.self.invariant.3, c.min-most.ensures, c.min-offered.ensures, c.len.ensures) in
    let quota = ap (λ z. z.quota) e.spread.setting in
    let count : c.self.inside.turn - 0 ≡ q.turn = omega (arith, turn) in
    let first = e.loads ∙ (λ j. after_workers q.quota (turn j) (workers j - turn j) (most j, q.loads)) in
    ap (λ p. p.1) f.loads ∙ (λ j. (after_workers (quota j) 0 (count j) (first j)).1)
