use Rattle.std.proofs.Common.{rules, arith, ap, sym, refl, subst, ◌∙◌, ◌≡◌, ◌<◌, ◌-◌, ◌+◌, ◌∷◌, length, List, take, drop, min}
use Rattle.std.specs.Prelude.{slice_index_or}
use Rattle.std.proofs.lemmas.List.{length-take-le, length-drop, get_or-set_same}
use Rattle.crypto_op.specs.declared.op.Op.{Op}
use Rattle.crypto_op.specs.Op.{IsFresh}
use Rattle.sched_multicore.specs.Queue.{Queue, Sound}
use Rattle.sched_multicore.specs.Step.{Heaped}
use Rattle.sched_multicore.proofs.Lists.{any_default, all_next, front_next, rest_next}
use Rattle.sched_multicore.proofs.Bursts.{heaped_none, heaped_next}
use Rattle.sched_multicore.proofs.queue.McQp.give.Goals as goal

pub loop-i-init : goal.loop-i-init
loop-i-init g c = record { rest = refl; heaped = heaped_none _ c.args.w }

pub accept-requires-clause-fresh : goal.accept-requires-clause-fresh
accept-requires-clause-fresh g c =
    let ops = c.args.burst.now.ops in
    let here : drop c.loop-i._i ops ≡ c.in-Some.op ∷ c.pop.new.self.ops = sym (ap (λ b. b.ops) c.loop-i.invariant.rest) ∙ c.in-Some.ensures.ops in
    all_next IsFresh ops c.args.most c.loop-i._i c.in-Some.op c.pop.new.self.ops here (omega (arith, c.loop-i-test.true, c.min-n.ensures)) c.requires.ops.1

pub accept-requires-clause-worker : goal.accept-requires-clause-worker
accept-requires-clause-worker g c =
    let q = c.args.self.now in
    let w = c.args.w in
    let i = c.loop-i._i in
    let v = c.self.view_is in
    let a = c.loop-i.invariant.heaped in
    let lt : w < length q.loads = c.requires.worker in
    let lt' : w < length c.self.inside.loads.items = subst (λ (q : Queue g.row.C.Denot). w < length q.loads) (sym v) lt in
    let x : slice_index_or q.loads w 0 ≡ c.index.result.now = sym (ap (λ q. slice_index_or q.loads w 0) v) ∙ any_default c.self.inside.loads.items w 0 c.index.result.now lt' ∙ sym c.index.ensures in
    let quota = ap (λ q. q.quota) v in
    let now = ap (λ z. z.quota) a.setting in
    let n : length (take i c.args.burst.now.ops) ≡ i = length-take-le i c.args.burst.now.ops (omega (arith, c.loop-i-test.true, c.min-n.ensures, c.requires.ops.0)) in
    let here : slice_index_or c.loop-i.self.loads w 0 ≡ slice_index_or q.loads w 0 + length (take i c.args.burst.now.ops) = ap (λ l. slice_index_or l w 0) a.loads ∙ get_or-set_same q.loads w _ 0 lt in
    let len : length c.loop-i.self.loads ≡ length q.loads = ap (λ z. z.workers) a.setting in
    (omega (arith, len, lt), omega (arith, here, n, x, quota, now, c.loop-i-test.true, c.min-n.ensures))

pub unreachable-requires : goal.unreachable-requires
unreachable-requires g c =
    let i = c.loop-i._i in
    let d : length c.loop-i.burst.ops ≡ length c.args.burst.now.ops - i = ap (λ b. length b.ops) c.loop-i.invariant.rest ∙ length-drop i c.args.burst.now.ops in
    let pos : 0 < length c.loop-i.burst.ops = omega (arith, d, c.loop-i-test.true, c.min-n.ensures, c.requires.ops.0) in
    let none = ap (λ (l : List (Op g.row.C.Denot)). length l) c.in-None.ensures.ops in
    search (rules, pos)

pub loop-i-preserved : goal.loop-i-preserved
loop-i-preserved g c =
    let ops = c.args.burst.now.ops in
    let inv = c.loop-i.invariant in
    let here : drop c.loop-i._i ops ≡ c.in-Some.op ∷ c.pop.new.self.ops = sym (ap (λ b. b.ops) inv.rest) ∙ c.in-Some.ensures.ops in
    let f = front_next ops c.loop-i._i c.in-Some.op c.pop.new.self.ops here in
    let r = rest_next ops c.loop-i._i c.in-Some.op c.pop.new.self.ops here in
    record {
      rest = λ j. record { cap = (c.pop.ensures.cap ∙ ap (λ b. b.cap) inv.rest) j; ops = sym r j };
      heaped = subst (λ (l : List (Op g.row.C.Denot)). Heaped c.args.self.now l c.args.w c.accept.new.self) (sym f) (heaped_next _ _ _ (take c.loop-i._i ops) c.in-Some.op c.args.w c.requires.worker inv.heaped c.accept.ensures);
    }

pub returns-clause-number : goal.returns-clause-number
returns-clause-number g c =
    let w = c.args.w in
    let v = c.self.view_is in
    let lt' : w < length c.self.inside.loads.items = subst (λ (q : Queue g.row.C.Denot). w < length q.loads) (sym v) c.requires.worker in
    let x : slice_index_or c.args.self.now.loads w 0 ≡ c.index.result.now = sym (ap (λ q. slice_index_or q.loads w 0) v) ∙ any_default c.self.inside.loads.items w 0 c.index.result.now lt' ∙ sym c.index.ensures in
    let quota = ap (λ q. q.quota) v in
    c.min-n.ensures ∙ (λ j. min c.args.most (quota j - sym x j))

pub returns-clause-within : goal.returns-clause-within
returns-clause-within g c =
    let w = c.args.w in
    let v = c.self.view_is in
    let h = subst (λ (q : Queue g.row.C.Denot). Sound q) v c.self.invariant.0 in
    (h.loaded w c.requires.worker).1
