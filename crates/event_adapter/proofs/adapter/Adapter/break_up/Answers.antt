use Rattle.std.proofs.Common.{◌<◌, ◌∷◌, [], length, take, ◌∙◌, arith}
use Rattle.std.proofs.lemmas.Grind.{common_steps}
use Rattle.std.proofs.lemmas.List.{map-append}
use Rattle.event_adapter.proofs.Deal.{front_taken}
use Rattle.event_adapter.proofs.adapter.Adapter.break_up.Goals as goal

pub loop-i-preserved : goal.loop-i-preserved
loop-i-preserved g c =
    let ps0 = c.args.self.pairs.items in
    let i = c.loop-i._i in
    let inv = c.loop-i.invariant in
    let h : i < length ps0 = omega (arith, c.loop-i-test.true, c.args.self.pairs.ok.0) in
    let f = front_taken ps0 c.loop-i.pairs.items i c.remove-dev.result h inv.rest c.remove-dev.ensures.value in
    record {
      rest = c.remove-dev.ensures.items ∙ f.1;
      len = omega (arith, inv.len, c.remove-dev.ensures.len);
      handed = rw (f.0, map-append (λ p. p.dev) (take i ps0) (c.remove-dev.result ∷ [])) (grind (arith, common_steps, inv.handed));
      count = grind (arith, common_steps, inv.count);
      capacity = grind (arith, common_steps, inv.capacity);
    }
