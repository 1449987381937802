use Rattle.std.proofs.Common.{arith, length, ◌≡◌, ◌++◌, [], List, map, subst, ap, ◌∙◌}
use Rattle.std.specs.List.{All}
use Rattle.std.proofs.lemmas.List.Elements.{All-head, All-tail}
use Rattle.crypto_op.specs.Op.{IsDone, entry_of}
use Rattle.crypto_op.specs.Burst.{Burst}
use Rattle.flight_table.specs.Rule.{Flying}
use Rattle.sched_multicore.specs.Laden.{Laden}
use Rattle.sched_multicore.proofs.Moving.{none_left, none_of}
use Rattle.sched_multicore.proofs.Passing.{hands_on}
use Rattle.sched_multicore.proofs.carrier.Carrier.finish_all.Goals as goal

pub finish-requires : goal.finish-requires
finish-requires g c =
    let q = c.requires.done in
    let v = c.loop-op.invariant in
    record {
      done = (
        q.0,
        map entry_of c.pop.new.self.ops ++ q.1,
        subst (λ (ops : List Flying). Laden q.0 c.loop-op.self (map entry_of ops ++ q.1)) c.in-Some.ensures.ops (v.laden q.0 q.1 q.2),
        All-head (IsDone q.0) c.in-Some.op c.pop.new.self.ops (subst (All (IsDone q.0)) c.in-Some.ensures.ops (v.done q.0 q.3)),
      );
    }

pub loop-op-preserved : goal.loop-op-preserved
loop-op-preserved g c =
    let v = c.loop-op.invariant in
    let e = c.finish.ensures in
    record {
      laden = λ sessions held l. rw e.burst (e.laden sessions (map entry_of c.pop.new.self.ops ++ held)
          (subst (λ (ops : List Flying). Laden sessions c.loop-op.self (map entry_of ops ++ held)) c.in-Some.ensures.ops (v.laden sessions held l)));
      done = λ sessions d. rw e.burst (All-tail (IsDone sessions) c.in-Some.op c.pop.new.self.ops (subst (All (IsDone sessions)) c.in-Some.ensures.ops (v.done sessions d)));
      same = record {
        hands = hands_on _ _ _ v.same.hands e.same.hands;
        codes = e.same.codes ∙ v.same.codes;
        cap = e.same.cap ∙ c.in-Some.ensures.cap ∙ v.same.cap;
        slots = e.same.slots ∙ v.same.slots;
        index = e.same.index ∙ v.same.index;
      };
      sum = let n = ap (λ (ops : List Flying). length ops) c.in-Some.ensures.ops in let m = ap (λ (b : Burst Flying). length b.ops) e.burst in omega (arith, n, m, e.sum, v.sum);
    }

pub returns-clause-unloads : goal.returns-clause-unloads
returns-clause-unloads g c =
    let v = c.loop-op.invariant in
    let none : c.loop-op.self.burst.ops ≡ [] = none_left c.pop.result c.loop-op.self.burst.ops c.in_default.is c.pop.ensures.variant in
    record {
      empty = none_of c.pop.result c.loop-op.self.burst.ops c.pop.new.self.ops c.in_default.is c.pop.ensures.ops ∙ none;
      laden = λ sessions held l. subst (λ (ops : List Flying). Laden sessions c.loop-op.self (map entry_of ops ++ held)) none (v.laden sessions held l);
      same = record {
        hands = v.same.hands;
        codes = v.same.codes;
        cap = c.pop.ensures.cap ∙ v.same.cap;
        slots = v.same.slots;
        index = v.same.index;
      };
    }

pub returns-clause-sum : goal.returns-clause-sum
returns-clause-sum g c =
    let none : c.loop-op.self.burst.ops ≡ [] = none_left c.pop.result c.loop-op.self.burst.ops c.in_default.is c.pop.ensures.variant in
    let n = ap (λ (ops : List Flying). length ops) none in
    omega (arith, n, c.loop-op.invariant.sum)
