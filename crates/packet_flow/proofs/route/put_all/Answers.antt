use Rattle.std.proofs.Common.{◌≡◌, ◌++◌, ◌∷◌, [], List, length, map, ap, sym, subst, ◌∙◌, arith, append_assoc, length-append}
use Rattle.std.specs.List.{All}
use Rattle.std.proofs.lemmas.List.Elements.{All-tail}
use Rattle.crypto_op.specs.declared.spec.Card.{Card}
use Rattle.crypto_op.specs.declared.op.Op.{Op}
use Rattle.crypto_op.specs.Op.{IsFresh}
use Rattle.event_adapter.specs.declared.event.Event.{Event}
use Rattle.packet_flow.proofs.RouteRuns.{new_event}
use Rattle.packet_flow.proofs.route.put_all.Goals as goal

pub loop-op-preserved : goal.loop-op-preserved
loop-op-preserved c =
    let inv = c.loop-op.invariant in
    let op = c.in-Some.op in
    let rest = c.pop.new.self.ops in
    let put = c.put.ensures in
    let first : c.loop-op.burst.ops ≡ op ∷ rest = c.in-Some.ensures.ops in
    record {
      fresh = All-tail IsFresh op rest (subst (All IsFresh) first inv.fresh);
      burst_cap = c.in-Some.ensures.cap ∙ inv.burst_cap;
      room = omega (arith, inv.room, ap length first, ap length put.inbox, length-append c.loop-op.port.inbox.items (new_event op ∷ []), ap length put.sent, put.cap);
      inbox = ap (λ (l : List (Event Card)). l ++ map new_event rest) put.inbox ∙ append_assoc c.loop-op.port.inbox.items (new_event op ∷ []) (map new_event rest)
          ∙ ap (λ (l : List (Op Card)). c.loop-op.port.inbox.items ++ map new_event l) (sym first) ∙ inv.inbox;
      sent = put.sent ∙ inv.sent;
      cap = put.cap ∙ inv.cap;
      takes = put.limits.0 ∙ inv.takes;
      sends = put.limits.1 ∙ inv.sends;
    }
