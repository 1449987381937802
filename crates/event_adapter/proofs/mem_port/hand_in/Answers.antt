use Rattle.std.proofs.Common.{◌≡◌, ◌∷◌, drop, ◌∙◌, sym, arith, rules}
use Rattle.std.proofs.lemmas.Grind.{common_steps}
use Rattle.crypto_op.proofs.Steps.{front_next, rest_next}
use Rattle.event_adapter.proofs.mem_port.hand_in.Goals as goal

pub loop-i-preserved : goal.loop-i-preserved
loop-i-preserved g c =
    let here : drop c.loop-i._i c.args.burst.now.ops ≡ c.in-Some.e ∷ c.pop.new.self.ops = sym c.loop-i.invariant.ops ∙ c.in-Some.ensures.ops in
    let f = front_next c.args.burst.now.ops c.loop-i._i c.in-Some.e c.pop.new.self.ops here in
    let r = rest_next c.args.burst.now.ops c.loop-i._i c.in-Some.e c.pop.new.self.ops here in
    record {
      cap = search rules;
      ops = sym r;
      items = grind (arith, common_steps, f);
      len = grind (arith, common_steps);
      capacity = search rules;
    }
