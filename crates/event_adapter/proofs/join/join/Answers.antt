use Rattle.std.proofs.Common.{◌≡◌, ◌∷◌, drop, ◌∙◌, sym, arith, rules}
use Rattle.std.proofs.lemmas.Grind.{common_steps}
use Rattle.std.proofs.lemmas.List.{map-append}
use Rattle.crypto_op.proofs.Steps.{front_next, rest_next}
use Rattle.event_adapter.proofs.join.join.Goals as goal

pub loop-i-preserved : goal.loop-i-preserved
loop-i-preserved g c =
    let here : drop c.loop-i._i c.args.ops.now.ops ≡ c.in-Some.op ∷ c.pop.new.self.ops = sym c.loop-i.invariant.rest ∙ c.in-Some.ensures.ops in
    let f = front_next c.args.ops.now.ops c.loop-i._i c.in-Some.op c.pop.new.self.ops here in
    let r = rest_next c.args.ops.now.ops c.loop-i._i c.in-Some.op c.pop.new.self.ops here in
    record {
      cap = search rules;
      rest = sym r;
      out_cap = search rules;
      out = grind (arith, common_steps, f, map-append);
      count = grind (arith, common_steps);
    }
