use Rattle.std.proofs.Common.{◌≡◌, ◌∷◌, [], ◌++◌, ◌+◌, suc, List, drop, take, length, ap, ◌∙◌, sym, arith, rules, length-append, append_assoc}
use Rattle.crypto_op.specs.declared.spec.Card.{Card}
use Rattle.crypto_op.specs.declared.op.Op.{Op}
use Rattle.crypto_op.specs.Burst.{Burst}
use Rattle.packet_flow.proofs.Answers.{drop_more, take_more}
use Rattle.packet_flow.proofs.tests.move_first.Goals as goal

pub loop-i-preserved : goal.loop-i-preserved
loop-i-preserved c =
    let all = c.args.burst.now.ops in
    let i = c.loop-i._i in
    let inv = c.loop-i.invariant in
    let op = c.in-Some.op in
    let rest = c.pop.new.self.ops in
    let one : suc i ≡ i + 1 = omega arith in
    let here : drop i all ≡ op ∷ rest = sym inv.ops ∙ c.in-Some.ensures.ops in
    let pushed : c.push.new.self.ops ≡ c.loop-i.kept.ops ++ op ∷ [] = ap (λ (b : Burst (Op Card)). b.ops) c.push.ensures in
    record {
      cap = search rules;
      ops = sym (drop_more i all rest op here) ∙ ap (λ (n : _). drop n all) one;
      kept_cap = ap (λ (b : Burst (Op Card)). b.cap) c.push.ensures ∙ inv.kept_cap;
      kept = pushed ∙ ap (λ (l : List (Op Card)). l ++ op ∷ []) inv.kept ∙ append_assoc c.args.kept.now.ops (take i all) (op ∷ [])
          ∙ ap (λ (l : List (Op Card)). c.args.kept.now.ops ++ l) (sym (take_more i all rest op here) ∙ ap (λ (n : _). take n all) one);
      count = omega (arith, ap length pushed, length-append c.loop-i.kept.ops (op ∷ []), inv.count);
    }
