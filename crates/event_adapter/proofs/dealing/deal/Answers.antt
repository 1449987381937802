use Rattle.std.proofs.Common.{◌≡◌, ◌+◌, ◌++◌, ◌∷◌, [], map, take, drop, ap, ◌∙◌, sym, arith}
use Rattle.std.specs.List.{All}
use Rattle.std.proofs.lemmas.List.{append_assoc, map-append}
use Rattle.std.proofs.lemmas.List.Elements.{All-drop}
use Rattle.crypto_op.proofs.Steps.{front_next, rest_next}
use Rattle.crypto_op.specs.Burst.{Burst}
use Rattle.event_adapter.specs.declared.event.Event.{Event}
use Rattle.event_adapter.specs.Source.{IsUntouched, source_of}
use Rattle.event_adapter.specs.Inside.{inside, strangers}
use Rattle.event_adapter.proofs.Deal.{each_on, strangers_more, strangers_same, bag_more}
use Rattle.event_adapter.proofs.dealing.deal.Goals as goal

pub deal_one-requires-clause-untouched : goal.deal_one-requires-clause-untouched
deal_one-requires-clause-untouched g c =
    let here : drop c.loop-j._j c.args.taken.now.ops ≡ c.in-Some.e ∷ c.pop.new.self.ops = sym c.loop-j.invariant.rest ∙ c.in-Some.ensures.ops in
    let left : All IsUntouched (drop c.loop-j._j c.args.taken.now.ops) = All-drop IsUntouched c.loop-j._j c.args.taken.now.ops c.requires.untouched in
    let all : All IsUntouched (c.in-Some.e ∷ c.pop.new.self.ops) = rw here at left in
    all 0 c.in-Some.e (omega arith)

pub loop-j-preserved : goal.loop-j-preserved
loop-j-preserved g c =
    let driver = g.D.Driver in
    let ps0 = c.args.pairs.now.items in
    let ps = c.loop-j.pairs.items in
    let ps' = c.deal_one.new.pairs.items in
    let out0 = c.args.out.now.ops in
    let j = c.loop-j._j in
    let e = c.in-Some.e in
    let es = take j c.args.taken.now.ops in
    let inv = c.loop-j.invariant in
    let one = c.deal_one.ensures in
    let here : drop j c.args.taken.now.ops ≡ e ∷ c.pop.new.self.ops = sym inv.rest ∙ c.in-Some.ensures.ops in
    let f : take (j + 1) c.args.taken.now.ops ≡ es ++ e ∷ [] = front_next c.args.taken.now.ops j e c.pop.new.self.ops here in
    let cap : c.deal_one.new.out.cap ≡ c.loop-j.out.cap = ap (λ (b : Burst (Event _)). b.cap) one.out in
    let ops : c.deal_one.new.out.ops ≡ c.loop-j.out.ops ++ strangers ps (e ∷ []) = ap (λ (b : Burst (Event _)). b.ops) one.out in
    record {
      cap = c.in-Some.ensures.cap ∙ inv.cap;
      rest = sym (rest_next c.args.taken.now.ops j e c.pop.new.self.ops here);
      out_cap = cap ∙ inv.out_cap;
      out = rw (f, strangers_more ps0 es (e ∷ [])) (ops ∙ (ap (λ z. z ++ strangers ps (e ∷ [])) inv.out ∙ (append_assoc out0 (strangers ps0 es) (strangers ps (e ∷ [])) ∙ ap (λ z. out0 ++ (strangers ps0 es ++ z)) (strangers_same ps0 ps (e ∷ []) inv.ids))));
      out_room = omega (arith, one.out_room, inv.out_room);
      each = rw f (each_on es (e ∷ []) ps0 ps ps' inv.each one.pairs);
      ids = one.ids ∙ inv.ids;
      room = omega (arith, inv.room, one.room);
      len = one.len ∙ inv.len;
      capacity = one.capacity ∙ inv.capacity;
      bag = rw (f, map-append source_of es (e ∷ [])) (bag_more (inside driver ps0 out0) (map source_of es) (source_of e ∷ []) (inside driver ps c.loop-j.out.ops) (inside driver ps' c.deal_one.new.out.ops) inv.bag one.bag);
    }
