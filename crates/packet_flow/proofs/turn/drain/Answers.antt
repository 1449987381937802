use Rattle.std.proofs.Common.{◌≡◌, ◌++◌, [], length, map, ap, ◌∙◌, arith}
use Rattle.crypto_op.specs.declared.spec.Card.{Card}
use Rattle.crypto_op.specs.declared.op.Op.{Op}
use Rattle.crypto_op.specs.Burst.{Burst}
use Rattle.crypto_op.specs.Op.{entry_of}
use Rattle.dev_core.specs.declared.stats.Stats.{Stats}
use Rattle.packet_flow.proofs.Calling.{last_more, one_more}
use Rattle.packet_flow.proofs.Bags.{all_back, came_back, fewer_held, same_back}
use Rattle.packet_flow.proofs.turn.drain.Goals as goal

pub settle_all-requires-clause-stand : goal.settle_all-requires-clause-stand
settle_all-requires-clause-stand g c =
    let b = c.requires.stand in
    let none : c.loop-alloc.back.ops ≡ [] = ap (λ (x : Burst (Op Card)). x.ops) c.loop-alloc.invariant.back ∙ c.requires.empty in
    let h = all_back entry_of c.loop-alloc.back.ops c.dequeue_burst-n.new.out.ops (g.D.Driver.held c.dequeue_burst-n.new.self) (g.D.Driver.held c.loop-alloc.dev) none c.dequeue_burst-n.ensures.held in (
      b.0,
      g.D.Driver.held c.dequeue_burst-n.new.self ++ b.1,
      came_back c.args.plan.now b.0 c.loop-alloc.slots (map entry_of c.dequeue_burst-n.new.out.ops) (g.D.Driver.held c.loop-alloc.dev) (g.D.Driver.held c.dequeue_burst-n.new.self) b.1 h
          (c.loop-alloc.invariant.stand b.0 b.1 b.2),
    )

pub overflow_add-all : goal.overflow_add-all
overflow_add-all g c =
    let none : c.loop-alloc.back.ops ≡ [] = ap (λ (x : Burst (Op Card)). x.ops) c.loop-alloc.invariant.back ∙ c.requires.empty in
    let h = all_back entry_of c.loop-alloc.back.ops c.dequeue_burst-n.new.out.ops (g.D.Driver.held c.dequeue_burst-n.new.self) (g.D.Driver.held c.loop-alloc.dev) none c.dequeue_burst-n.ensures.held in
    let count : length c.dequeue_burst-n.new.out.ops ≡ c.dequeue_burst-n.result = omega (arith, c.dequeue_burst-n.ensures.count, ap length none) in
    let fewer = fewer_held entry_of c.dequeue_burst-n.new.out.ops (g.D.Driver.held c.loop-alloc.dev) (g.D.Driver.held c.dequeue_burst-n.new.self) c.dequeue_burst-n.result h count in
    omega (arith, fewer, c.loop-alloc.invariant.count, c.requires.few)

pub returns-then-n-size-clause-stand : goal.returns-then-n-size-clause-stand
returns-then-n-size-clause-stand g c ps rest b =
    let none : c.loop-alloc.back.ops ≡ [] = ap (λ (x : Burst (Op Card)). x.ops) c.loop-alloc.invariant.back ∙ c.requires.empty in
    let h = all_back entry_of c.loop-alloc.back.ops c.dequeue_burst-n.new.out.ops (g.D.Driver.held c.dequeue_burst-n.new.self) (g.D.Driver.held c.loop-alloc.dev) none c.dequeue_burst-n.ensures.held in
    c.settle_all.ensures.stand ps (g.D.Driver.held c.dequeue_burst-n.new.self ++ rest)
    (came_back c.args.plan.now ps c.loop-alloc.slots (map entry_of c.dequeue_burst-n.new.out.ops) (g.D.Driver.held c.loop-alloc.dev) (g.D.Driver.held c.dequeue_burst-n.new.self) rest h
    (c.loop-alloc.invariant.stand ps rest b))

pub returns-then-n-size-clause-count : goal.returns-then-n-size-clause-count
returns-then-n-size-clause-count g c =
    let none : c.loop-alloc.back.ops ≡ [] = ap (λ (x : Burst (Op Card)). x.ops) c.loop-alloc.invariant.back ∙ c.requires.empty in
    let h = all_back entry_of c.loop-alloc.back.ops c.dequeue_burst-n.new.out.ops (g.D.Driver.held c.dequeue_burst-n.new.self) (g.D.Driver.held c.loop-alloc.dev) none c.dequeue_burst-n.ensures.held in
    let count : length c.dequeue_burst-n.new.out.ops ≡ c.dequeue_burst-n.result = omega (arith, c.dequeue_burst-n.ensures.count, ap length none) in
    let fewer = fewer_held entry_of c.dequeue_burst-n.new.out.ops (g.D.Driver.held c.loop-alloc.dev) (g.D.Driver.held c.dequeue_burst-n.new.self) c.dequeue_burst-n.result h count in
    omega (arith, fewer, c.loop-alloc.invariant.count)

pub loop-alloc-smaller : goal.loop-alloc-smaller
loop-alloc-smaller g c =
    let none : c.loop-alloc.back.ops ≡ [] = ap (λ (x : Burst (Op Card)). x.ops) c.loop-alloc.invariant.back ∙ c.requires.empty in
    let h = all_back entry_of c.loop-alloc.back.ops c.dequeue_burst-n.new.out.ops (g.D.Driver.held c.dequeue_burst-n.new.self) (g.D.Driver.held c.loop-alloc.dev) none c.dequeue_burst-n.ensures.held in
    let count : length c.dequeue_burst-n.new.out.ops ≡ c.dequeue_burst-n.result = omega (arith, c.dequeue_burst-n.ensures.count, ap length none) in
    let fewer = fewer_held entry_of c.dequeue_burst-n.new.out.ops (g.D.Driver.held c.loop-alloc.dev) (g.D.Driver.held c.dequeue_burst-n.new.self) c.dequeue_burst-n.result h count in
    omega (arith, fewer, c.requires.size, c.room-size.ensures, ap length c.requires.empty)

pub loop-alloc-preserved : goal.loop-alloc-preserved
loop-alloc-preserved g c =
    let none : c.loop-alloc.back.ops ≡ [] = ap (λ (x : Burst (Op Card)). x.ops) c.loop-alloc.invariant.back ∙ c.requires.empty in
    let h = all_back entry_of c.loop-alloc.back.ops c.dequeue_burst-n.new.out.ops (g.D.Driver.held c.dequeue_burst-n.new.self) (g.D.Driver.held c.loop-alloc.dev) none c.dequeue_burst-n.ensures.held in
    let count : length c.dequeue_burst-n.new.out.ops ≡ c.dequeue_burst-n.result = omega (arith, c.dequeue_burst-n.ensures.count, ap length none) in
    let fewer = fewer_held entry_of c.dequeue_burst-n.new.out.ops (g.D.Driver.held c.loop-alloc.dev) (g.D.Driver.held c.dequeue_burst-n.new.self) c.dequeue_burst-n.result h count in
    let inv = c.loop-alloc.invariant in
    record {
      back = c.settle_all.ensures.emptied ∙ same_back c.args.back.now c.loop-alloc.back c.dequeue_burst-n.new.out _ c.requires.empty inv.back c.dequeue_burst-n.ensures.kept;
      size = omega (arith, c.room-size.ensures, ap length c.requires.empty);
      count = omega (arith, fewer, inv.count);
      stalls = omega (arith, inv.stalls, c.dequeue_burst-n.ensures.stalls);
      sessions = c.dequeue_burst-n.ensures.sessions ∙ inv.sessions;
      enqueued = ap (λ (s : Stats). s.enqueued) c.dequeue_burst-n.ensures.stats ∙ inv.enqueued;
      log = c.dequeue_burst-n.ensures.log ∙ inv.log;
      calls = λ first past ran. one_more g.D.Driver.does first past c.loop-alloc.dev c.dequeue_burst-n.new.self _ c.dequeue_burst-n.result (inv.calls first past ran) c.dequeue_burst-n.ensures.does;
      follows = g.met.D.Driver.follows_on _ _ _ inv.follows c.dequeue_burst-n.ensures.follows;
      stand = λ ps rest b. c.settle_all.ensures.stand ps (g.D.Driver.held c.dequeue_burst-n.new.self ++ rest)
          (came_back c.args.plan.now ps c.loop-alloc.slots (map entry_of c.dequeue_burst-n.new.out.ops) (g.D.Driver.held c.loop-alloc.dev) (g.D.Driver.held c.dequeue_burst-n.new.self) rest h
          (inv.stand ps rest b));
      order = λ all. c.settle_all.ensures.order (inv.order all);
    }

pub returns-then-n-size-clause-calls : goal.returns-then-n-size-clause-calls
returns-then-n-size-clause-calls g c first past ran =
    let none : c.loop-alloc.back.ops ≡ [] = ap (λ (x : Burst (Op Card)). x.ops) c.loop-alloc.invariant.back ∙ c.requires.empty in
    last_more g.D.Driver.does first past c.loop-alloc.dev c.dequeue_burst-n.new.self _ c.dequeue_burst-n.result (c.loop-alloc.invariant.calls first past ran)
    (omega (arith, c.if-n-size.true, c.room-size.ensures, c.loop-alloc.invariant.size, ap length none, ap length c.requires.empty, ap (λ (x : Burst (Op Card)). x.cap) c.loop-alloc.invariant.back)) c.dequeue_burst-n.ensures.does
