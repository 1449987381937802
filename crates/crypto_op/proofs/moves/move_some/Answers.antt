use Rattle.std.proofs.Common.{◌≡◌, ◌∷◌, drop, ◌∙◌, sym, arith, rules}
use Rattle.std.proofs.lemmas.Grind.{common_steps}
use Rattle.crypto_op.proofs.Steps.{front_next, rest_next}
use Rattle.crypto_op.proofs.moves.move_some.Goals as goal

pub loop-i-preserved : goal.loop-i-preserved
loop-i-preserved g c =
    let here : drop c.loop-i._i c.args.from.now.items ≡ c.in-Some.item ∷ c.pop_front.new.self.items = sym c.loop-i.invariant.rest ∙ c.in-Some.ensures.items in
    let f = front_next c.args.from.now.items c.loop-i._i c.in-Some.item c.pop_front.new.self.items here in
    let r = rest_next c.args.from.now.items c.loop-i._i c.in-Some.item c.pop_front.new.self.items here in
    record {
      rest = sym r;
      items = grind (arith, common_steps, f);
      left = grind (arith, common_steps);
      len = grind (arith, common_steps);
      from_capacity = search rules;
      capacity = search rules;
    }
