use Rattle.std.proofs.Common.{length, ap, arith, subst}
use Rattle.std.specs.List.{All}
use Rattle.std.proofs.lemmas.List.Elements.{All-tail}
use Rattle.capture_io.specs.Limits.{IsSmall}
use Rattle.packet_flow.proofs.window.Window.take.Goals as goal

pub invariant_of-self-2 : goal.invariant_of-self-2
invariant_of-self-2 c =
    let kept = c.self.invariant in
    let items = c.in_ok-rec.ensures.items in
    record {
      count = omega (arith, kept.count, ap length items);
      range = kept.range;
      at = kept.at;
      small = All-tail IsSmall c.in_ok-rec.rec c.pop_front.new.self.items (subst (All IsSmall) items kept.small);
    }
