use Rattle.std.proofs.Common.{◌≡◌, ◌++◌, [], List, map, subst, ◌∙◌}
use Rattle.std.specs.List.{All}
use Rattle.std.proofs.lemmas.List.Elements.{All-head, All-tail}
use Rattle.crypto_op.specs.declared.spec.Card.{Card}
use Rattle.crypto_op.specs.declared.op.Op.{Op}
use Rattle.crypto_op.specs.Op.{IsDone, entry_of}
use Rattle.packet_plan.specs.Asked.{sessions_of}
use Rattle.packet_flow.specs.Slots.{StandFor}
use Rattle.packet_flow.proofs.Bags.{none_left}
use Rattle.packet_flow.proofs.slots.Slots.settle_all.Goals as goal

pub settle-requires-clause-done : goal.settle-requires-clause-done
settle-requires-clause-done g c =
    All-head (IsDone (sessions_of c.args.plan.now)) c.in-Some.op c.pop.new.self.ops
    (subst (All (IsDone (sessions_of c.args.plan.now))) c.in-Some.ensures.ops c.loop-op.invariant.done)

pub settle-requires-clause-stand : goal.settle-requires-clause-stand
settle-requires-clause-stand g c =
    let b = c.requires.stand in (
      b.0,
      map entry_of c.pop.new.self.ops ++ b.1,
      subst (λ (ops : List (Op Card)). StandFor c.args.plan.now b.0 c.loop-op.self (map entry_of ops ++ b.1)) c.in-Some.ensures.ops (c.loop-op.invariant.stand b.0 b.1 b.2),
    )

pub loop-op-preserved : goal.loop-op-preserved
loop-op-preserved g c = record {
  done = All-tail (IsDone (sessions_of c.args.plan.now)) c.in-Some.op c.pop.new.self.ops
      (subst (All (IsDone (sessions_of c.args.plan.now))) c.in-Some.ensures.ops c.loop-op.invariant.done);
  cap = c.in-Some.ensures.cap ∙ c.loop-op.invariant.cap;
  stand = λ ps rest b. c.settle.ensures.stand ps (map entry_of c.pop.new.self.ops ++ rest)
      (subst (λ (ops : List (Op Card)). StandFor c.args.plan.now ps c.loop-op.self (map entry_of ops ++ rest)) c.in-Some.ensures.ops (c.loop-op.invariant.stand ps rest b));
  order = λ all. c.settle.ensures.order (c.loop-op.invariant.order all);
}

pub returns-clause-stand : goal.returns-clause-stand
returns-clause-stand g c ps rest b =
    let none : c.loop-op.back.ops ≡ [] = none_left c.pop.result c.loop-op.back.ops c.in_default.is c.pop.ensures.variant in
    subst (λ (ops : List (Op Card)). StandFor c.args.plan.now ps c.loop-op.self (map entry_of ops ++ rest)) none (c.loop-op.invariant.stand ps rest b)
