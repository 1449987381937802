use Rattle.std.proofs.Common.{◌≡◌, ◌∷◌, [], ◌++◌, ◌+◌, suc, List, drop, take, ap, ◌∙◌, sym, arith, rules, append_assoc}
use Rattle.std.proofs.lemmas.Grind.{common_steps}
use Rattle.crypto_op.specs.declared.spec.Card.{Card}
use Rattle.crypto_op.specs.declared.op.Op.{Op}
use Rattle.packet_flow.proofs.Answers.{drop_more, take_more}
use Rattle.capcrypt.proofs.tests.order.take_in.Goals as goal

pub loop-i-preserved : goal.loop-i-preserved
loop-i-preserved c =
    let all = c.args.burst.now.ops in
    let i = c.loop-i._i in
    let inv = c.loop-i.invariant in
    let op = c.in-Some.op in
    let rest = c.pop.new.self.ops in
    let one : suc i ≡ i + 1 = omega arith in
    let here : drop i all ≡ op ∷ rest = sym inv.ops ∙ c.in-Some.ensures.ops in
    record {
      cap = search rules;
      ops = sym (drop_more i all rest op here) ∙ ap (λ (n : _). drop n all) one;
      items = c.put.ensures.items ∙ ap (λ (l : List (Op Card)). l ++ op ∷ []) inv.items ∙ append_assoc c.args.inside.now.items (take i all) (op ∷ [])
          ∙ ap (λ (l : List (Op Card)). c.args.inside.now.items ++ l) (sym (take_more i all rest op here) ∙ ap (λ (n : _). take n all) one);
      len = grind (arith, common_steps);
      capacity = search rules;
    }
