use Rattle.std.proofs.Common.{◌≡◌, ◌∷◌, drop, ◌∙◌, sym, arith, rules}
use Rattle.std.proofs.lemmas.Grind.{common_steps}
use Rattle.crypto_op.proofs.Steps.{front_next, rest_next}
use Rattle.event_adapter.proofs.mem_port.hand_out.Goals as goal

pub loop-i-preserved : goal.loop-i-preserved
loop-i-preserved g c =
    let here : drop c.loop-i._i c.args.queue.now.items ≡ c.in-Some.e ∷ c.pop_front.new.self.items = sym c.loop-i.invariant.items ∙ c.in-Some.ensures.items in
    let f = front_next c.args.queue.now.items c.loop-i._i c.in-Some.e c.pop_front.new.self.items here in
    let r = rest_next c.args.queue.now.items c.loop-i._i c.in-Some.e c.pop_front.new.self.items here in
    record {
      cap = search rules;
      ops = grind (arith, common_steps, f);
      count = grind (arith, common_steps);
      items = sym r;
      len = grind (arith, common_steps);
      capacity = search rules;
    }
