use Rattle.std.proofs.Common.{◌≡◌, ◌++◌, [], List, map, subst, ◌∙◌}
use Rattle.std.specs.List.{All}
use Rattle.std.proofs.lemmas.List.Elements.{All-head, All-tail}
use Rattle.crypto_op.specs.Op.{IsFresh, entry_of}
use Rattle.flight_table.specs.Rule.{Flying}
use Rattle.sched_multicore.specs.Laden.{Laden}
use Rattle.sched_multicore.proofs.Moving.{none_left, none_of}
use Rattle.sched_multicore.proofs.Passing.{hands_on}
use Rattle.sched_multicore.proofs.carrier.Carrier.give_back_all.Goals as goal

pub give_back-requires : goal.give_back-requires
give_back-requires c =
    let q = c.requires.fresh.0 in
    let v = c.loop-op.invariant in
    record {
      fresh = (
        q.0,
        map entry_of c.pop.new.self.ops ++ q.1,
        subst (λ (ops : List Flying). Laden q.0 c.loop-op.self (map entry_of ops ++ q.1)) c.in-Some.ensures.ops (v.laden q.0 q.1 q.2),
        All-head IsFresh c.in-Some.op c.pop.new.self.ops (subst (All IsFresh) c.in-Some.ensures.ops v.fresh),
      );
    }

pub loop-op-preserved : goal.loop-op-preserved
loop-op-preserved c =
    let v = c.loop-op.invariant in
    let e = c.give_back.ensures in
    let fresh = All-tail IsFresh c.in-Some.op c.pop.new.self.ops (subst (All IsFresh) c.in-Some.ensures.ops v.fresh) in
    record {
      laden = λ sessions held l. rw e.burst (e.laden sessions (map entry_of c.pop.new.self.ops ++ held)
          (subst (λ (ops : List Flying). Laden sessions c.loop-op.self (map entry_of ops ++ held)) c.in-Some.ensures.ops (v.laden sessions held l)));
      fresh = rw e.burst fresh;
      same = record {
        hands = hands_on _ _ _ v.same.hands e.same.hands;
        codes = e.same.codes ∙ v.same.codes;
        cap = e.same.cap ∙ c.in-Some.ensures.cap ∙ v.same.cap;
        slots = e.same.slots ∙ v.same.slots;
        index = e.same.index ∙ v.same.index;
      };
      sum = e.sum ∙ v.sum;
    }

pub returns-clause-unloads : goal.returns-clause-unloads
returns-clause-unloads c =
    let v = c.loop-op.invariant in
    let none : c.loop-op.self.burst.ops ≡ [] = none_left c.pop.result c.loop-op.self.burst.ops c.in_default.is c.pop.ensures.variant in
    record {
      empty = none_of c.pop.result c.loop-op.self.burst.ops c.pop.new.self.ops c.in_default.is c.pop.ensures.ops ∙ none;
      laden = λ sessions held l. subst (λ (ops : List Flying). Laden sessions c.loop-op.self (map entry_of ops ++ held)) none (v.laden sessions held l);
      same = record {
        hands = v.same.hands;
        codes = v.same.codes;
        cap = c.pop.ensures.cap ∙ v.same.cap;
        slots = v.same.slots;
        index = v.same.index;
      };
    }
