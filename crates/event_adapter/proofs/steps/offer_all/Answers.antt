use Rattle.std.proofs.Common.{◌≡◌, ◌-◌, ◌<◌, ◌≤◌, ◌++◌, [], length, take, refl, subst, arith, length-append}
use Rattle.std.proofs.lemmas.List.{length-take-le}
use Rattle.event_adapter.specs.Inside.{bag_of}
use Rattle.event_adapter.specs.Steps.{Offered}
use Rattle.event_adapter.proofs.Bags.{along_same, along_ids, offered_bag}
use Rattle.event_adapter.proofs.Loops.{along_step, along_end, rest_step}
use Rattle.event_adapter.proofs.steps.offer_all.Goals as goal

pub loop-i-init : goal.loop-i-init
loop-i-init g c = record {
  step = ([], refl, refl);
  rest = refl;
  few = omega arith;
  len = refl;
  capacity = refl;
}

pub loop-i-preserved : goal.loop-i-preserved
loop-i-preserved g c =
    let R = Offered g.D.Driver in
    let i = c.loop-i.i in
    let ps0 = c.args.pairs.now.items in
    let ps = c.loop-i.pairs.items in
    let p = c.index_mut-pair.result.now in
    let q = c.offer-n.new.self in
    let inv = c.loop-i.invariant in
    let h : i < length ps = omega (arith, c.loop-i-test.true, inv.len, c.loop-i.pairs.ok.0) in
    let l : length ps ≡ length ps0 = omega (arith, inv.len, c.loop-i.pairs.ok.0, c.args.pairs.now.ok.0) in
    let ops = inv.step.0 in
    let mine = take c.offer-n.result p.waiting.ops in
    let none : 0 ≡ 0 - length ops = omega arith in
    let r : R (0 - length ops) p q mine = subst (λ n. R n p q mine) none c.offer-n.ensures.step in
    let size = length-take-le c.offer-n.result p.waiting.ops c.offer-n.ensures.within in
    let all = length-append ops mine in
    record {
      step = (ops ++ mine, along_step R 0 ps0 ps i p q ops mine h l c.index_mut-pair.ensures.value inv.rest inv.step.1 r, omega (arith, all, size, inv.step.2));
      rest = rest_step ps0 ps i q inv.rest;
      few = omega (arith, inv.few, c.offer-n.ensures.few);
      len = inv.len;
      capacity = inv.capacity;
    }

pub returns-clause-ids : goal.returns-clause-ids
returns-clause-ids g c =
    let R = Offered g.D.Driver in
    let ps0 = c.args.pairs.now.items in
    let ps = c.loop-i.pairs.items in
    let inv = c.loop-i.invariant in
    let l : length ps ≡ length ps0 = omega (arith, inv.len, c.loop-i.pairs.ok.0, c.args.pairs.now.ok.0) in
    let h : length ps ≤ c.loop-i.i = omega (arith, c.loop-i-test.false, inv.len, c.loop-i.pairs.ok.0) in
    along_ids R (λ n p q es s. s.id) 0 ps0 ps inv.step.0 (along_end R 0 ps0 ps c.loop-i.i inv.step.0 l h inv.step.1)

pub returns-clause-bag : goal.returns-clause-bag
returns-clause-bag g c =
    let R = Offered g.D.Driver in
    let ps0 = c.args.pairs.now.items in
    let ps = c.loop-i.pairs.items in
    let inv = c.loop-i.invariant in
    let l : length ps ≡ length ps0 = omega (arith, inv.len, c.loop-i.pairs.ok.0, c.args.pairs.now.ok.0) in
    let h : length ps ≤ c.loop-i.i = omega (arith, c.loop-i-test.false, inv.len, c.loop-i.pairs.ok.0) in
    along_same R (bag_of g.D.Driver) (λ n p q ops s. offered_bag g.D.Driver n p q ops s) 0 ps0 ps inv.step.0 (along_end R 0 ps0 ps c.loop-i.i inv.step.0 l h inv.step.1)
