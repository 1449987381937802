use Rattle.std.proofs.Common.{◌≡◌, ◌++◌, ◌∷◌, [], List, ap, sym, ◌∙◌}
use Rattle.packet_flow.specs.declared.slots.Slot.{Slot}
use Rattle.packet_flow.specs.Laid.{laid_out, seats_if, seats_of}
use Rattle.std.proofs.lemmas.List.{append-nil}
use Rattle.packet_flow.proofs.Bags.{on_err_from}
use Rattle.packet_flow.proofs.Rooms.{laid-push, laid_back, laid_beside, laid_joined, with_more}
use Rattle.packet_flow.proofs.slots.put_behind.Goals as goal

pub returns-in_default-clause-put : goal.returns-in_default-clause-put
returns-in_default-clause-put c =
    let none = c.in_default.ensures.items in
    ap laid_out c.in_ok-push_back.ensures.items ∙ laid-push c.pop_back.new.self.items c.args.slot
    ∙ ap (λ (l : List Slot). laid_out l ++ seats_of c.args.slot) (sym (none ∙ append-nil c.pop_back.new.self.items))

pub returns-in_err-push_back-in-Some-more-clause-stays : goal.returns-in_err-push_back-in-Some-more-clause-stays
returns-in_err-push_back-in-Some-more-clause-stays c =
    let old = c.args.slots.now.items in
    let rest = c.pop_back.new.self.items in
    let last = c.joined-last.result.0 in
    let same : seats_of last ≡ seats_of c.in-Some.last = with_more _ c.in-Some-more.more (λ s. seats_of last ≡ seats_of c.in-Some.last) c.in-Some-more.is c.joined-last.ensures.stays in
    on_err_from c.from_residual-in_err-push_back-in-Some-more.result _
    (ap laid_out (c.in_err-push_back-in-Some-more.ensures.items ∙ c.push_back_reserved.ensures.items) ∙ laid_back old rest c.in-Some.last last c.in-Some.ensures.items same)

pub returns-in_ok-push_back-in-Some-more-clause-put : goal.returns-in_ok-push_back-in-Some-more-clause-put
returns-in_ok-push_back-in-Some-more-clause-put c =
    let old = c.args.slots.now.items in
    let rest = c.pop_back.new.self.items in
    let last = c.joined-last.result.0 in
    let more = c.in-Some-more.more in
    let same = c.joined-last.ensures.same ∙ ap (λ x. seats_of last ++ seats_if x) c.in-Some-more.is in
    ap laid_out (c.in_ok-push_back-in-Some-more.ensures.items ∙ ap (λ (l : List Slot). l ++ more ∷ []) c.push_back_reserved.ensures.items)
    ∙ laid_beside old rest c.in-Some.last c.args.slot last more c.in-Some.ensures.items same

pub returns-in-None-clause-put : goal.returns-in-None-clause-put
returns-in-None-clause-put c =
    let old = c.args.slots.now.items in
    let rest = c.pop_back.new.self.items in
    let last = c.joined-last.result.0 in
    let same = c.joined-last.ensures.same ∙ ap (λ x. seats_of last ++ seats_if x) c.in-None.is in
    ap laid_out c.push_back_reserved.ensures.items ∙ laid_joined old rest c.in-Some.last c.args.slot last c.in-Some.ensures.items same
