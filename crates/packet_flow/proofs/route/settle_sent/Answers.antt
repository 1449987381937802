use Rattle.std.proofs.Common.{◌≡◌, ◌++◌, [], List, map, subst, ◌∙◌}
use Rattle.std.specs.List.{All}
use Rattle.std.proofs.lemmas.List.Elements.{All-head, All-tail}
use Rattle.crypto_op.specs.declared.spec.Card.{Card}
use Rattle.event_adapter.specs.declared.event.Event.{Event}
use Rattle.event_adapter.specs.declared.event.EventKind.TheVariants as kind
use Rattle.event_adapter.specs.Source.{IsAnswer, entry_in}
use Rattle.packet_plan.specs.Asked.{sessions_of}
use Rattle.packet_flow.specs.Slots.{StandFor}
use Rattle.packet_flow.proofs.Bags.{none_left}
use Rattle.packet_flow.proofs.route.settle_sent.Goals as goal

pub settle-requires-clause-done : goal.settle-requires-clause-done
settle-requires-clause-done g c =
    let P = IsAnswer {C = Card} kind.Forward 0 (sessions_of c.args.plan.now) in
    (All-head P c.in-Some.event c.take_sent.new.self.sent.items (subst (All P) c.in-Some.ensures.sent c.loop-event.invariant.answers)).done

pub settle-requires-clause-stand : goal.settle-requires-clause-stand
settle-requires-clause-stand g c =
    let b = c.requires.stand in (
      b.0,
      map entry_in c.take_sent.new.self.sent.items ++ b.1,
      subst (λ (es : List (Event Card)). StandFor c.args.plan.now b.0 c.loop-event.slots (map entry_in es ++ b.1)) c.in-Some.ensures.sent (c.loop-event.invariant.stand b.0 b.1 b.2),
    )

pub loop-event-preserved : goal.loop-event-preserved
loop-event-preserved g c =
    let P = IsAnswer {C = Card} kind.Forward 0 (sessions_of c.args.plan.now) in
    let inv = c.loop-event.invariant in
    let some = c.in-Some.ensures in
    record {
      answers = All-tail P c.in-Some.event c.take_sent.new.self.sent.items (subst (All P) some.sent inv.answers);
      stand = λ ps rest b. c.settle.ensures.stand ps (map entry_in c.take_sent.new.self.sent.items ++ rest)
          (subst (λ (es : List (Event Card)). StandFor c.args.plan.now ps c.loop-event.slots (map entry_in es ++ rest)) some.sent (inv.stand ps rest b));
      order = λ all. c.settle.ensures.order (inv.order all);
      inbox = some.inbox ∙ inv.inbox;
      cap = some.cap ∙ inv.cap;
      takes = some.limits.0 ∙ inv.takes;
      sends = some.limits.1 ∙ inv.sends;
    }

pub returns-clause-stand : goal.returns-clause-stand
returns-clause-stand g c ps rest b =
    let none : c.loop-event.port.sent.items ≡ [] = none_left c.take_sent.result c.loop-event.port.sent.items c.in_default.is c.take_sent.ensures.some in
    subst (λ (es : List (Event Card)). StandFor c.args.plan.now ps c.loop-event.slots (map entry_in es ++ rest)) none (c.loop-event.invariant.stand ps rest b)
