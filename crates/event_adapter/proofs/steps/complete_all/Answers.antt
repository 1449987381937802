use Rattle.std.proofs.Common.{◌≡◌, ◌-◌, ◌<◌, ◌≤◌, length, drop, refl, ◌∙◌, subst, arith}
use Rattle.std.proofs.lemmas.List.{drop_all}
use Rattle.dev_core.specs.Burst.{room_of}
use Rattle.event_adapter.specs.Source.{source_of}
use Rattle.event_adapter.specs.Inside.{bag_of}
use Rattle.event_adapter.specs.Steps.{Completed}
use Rattle.event_adapter.proofs.Bags.{along_bag, along_ids, completed_bag, complete_inside}
use Rattle.event_adapter.proofs.Loops.{along_step, along_end, rest_step, behind_more, kept_more, kept_none, room_left}
use Rattle.event_adapter.proofs.steps.complete_all.Goals as goal

pub loop-i-init : goal.loop-i-init
loop-i-init g c = record {
  step = drop_all (length c.args.out.now.ops) c.args.out.now.ops (omega arith);
  rest = refl;
  kept = kept_none c.args.out.now;
  count = omega arith;
  scratch = refl;
  len = refl;
  capacity = refl;
}

pub loop-i-preserved : goal.loop-i-preserved
loop-i-preserved g c =
    let R = Completed g.D.Driver c.args.kind in
    let o0 = c.args.out.now in
    let o = c.loop-i.out in
    let o' = c.complete.new.out in
    let i = c.loop-i.i in
    let ps0 = c.args.pairs.now.items in
    let ps = c.loop-i.pairs.items in
    let p = c.index_mut-pair.result.now in
    let q = c.complete.new.self in
    let inv = c.loop-i.invariant in
    let h : i < length ps = omega (arith, c.loop-i-test.true, inv.len, c.loop-i.pairs.ok.0) in
    let l : length ps ≡ length ps0 = omega (arith, inv.len, c.loop-i.pairs.ok.0, c.args.pairs.now.ok.0) in
    let es = drop (length o0.ops) o.ops in
    let mine = drop (length o.ops) o'.ops in
    let r : R (room_of o0 - length es) p q mine = subst (λ n. R n p q mine) (room_left o0 o inv.kept inv.count) c.complete.ensures.step in
    record {
      step = rw (behind_more o0 o o' inv.count c.complete.ensures.kept) (along_step R (room_of o0) ps0 ps i p q es mine h l c.index_mut-pair.ensures.value inv.rest inv.step r);
      rest = rest_step ps0 ps i q inv.rest;
      kept = kept_more o0 o o' inv.kept c.complete.ensures.kept inv.count;
      count = omega (arith, inv.count, c.complete.ensures.count);
      scratch = c.complete.ensures.scratch ∙ inv.scratch;
      len = inv.len;
      capacity = inv.capacity;
    }

pub returns-clause-ids : goal.returns-clause-ids
returns-clause-ids g c =
    let R = Completed g.D.Driver c.args.kind in
    let o0 = c.args.out.now in
    let ps0 = c.args.pairs.now.items in
    let ps = c.loop-i.pairs.items in
    let inv = c.loop-i.invariant in
    let l : length ps ≡ length ps0 = omega (arith, inv.len, c.loop-i.pairs.ok.0, c.args.pairs.now.ok.0) in
    let h : length ps ≤ c.loop-i.i = omega (arith, c.loop-i-test.false, inv.len, c.loop-i.pairs.ok.0) in
    let es = drop (length o0.ops) c.loop-i.out.ops in
    along_ids R (λ n p q es s. s.id) (room_of o0) ps0 ps es (along_end R (room_of o0) ps0 ps c.loop-i.i es l h inv.step)

pub returns-clause-bag : goal.returns-clause-bag
returns-clause-bag g c =
    let R = Completed g.D.Driver c.args.kind in
    let o0 = c.args.out.now in
    let ps0 = c.args.pairs.now.items in
    let ps = c.loop-i.pairs.items in
    let inv = c.loop-i.invariant in
    let l : length ps ≡ length ps0 = omega (arith, inv.len, c.loop-i.pairs.ok.0, c.args.pairs.now.ok.0) in
    let h : length ps ≤ c.loop-i.i = omega (arith, c.loop-i-test.false, inv.len, c.loop-i.pairs.ok.0) in
    let es = drop (length o0.ops) c.loop-i.out.ops in
    let a = along_end R (room_of o0) ps0 ps c.loop-i.i es l h inv.step in
    complete_inside g.D.Driver ps0 ps o0 c.loop-i.out inv.kept
    (along_bag R (bag_of g.D.Driver) source_of (λ n p q es s. completed_bag g.D.Driver c.args.kind n p q es s) (room_of o0) ps0 ps es a)
