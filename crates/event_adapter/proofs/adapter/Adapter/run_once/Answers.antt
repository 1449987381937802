use Rattle.std.proofs.Common.{◌≡◌, ◌-◌, ◌++◌, length, map, take, drop, option_map, ap, ◌∙◌, sym, subst, arith, length-drop}
use Rattle.std.specs.List.{flat_map}
use Rattle.std.specs.List.Sorted.{IsPermutation}
use Rattle.dev_core.specs.Burst.{room_of}
use Rattle.event_adapter.specs.Source.{source_of}
use Rattle.event_adapter.specs.Inside.{bag_of, inside, strangers}
use Rattle.event_adapter.specs.Steps.{Along, Completed, Dealt, Each}
use Rattle.event_adapter.specs.Ran.{kind_of}
use Rattle.event_adapter.proofs.Deal.{strangers_same}
use Rattle.event_adapter.proofs.Order.{order_each, served_at}
use Rattle.event_adapter.proofs.Whole.{sent_room, done_ops, out_ops, rose_since, sent_sources, run_bag}
use Rattle.event_adapter.proofs.adapter.Adapter.run_once.Goals as goal

pub returns-clause-step : goal.returns-clause-step
returns-clause-step g c =
    let R = Completed g.D.Driver (kind_of c.args.self.now.mode) in
    let ps = c.args.self.now.pairs.items in
    let mids = c.complete_all-completed.new.pairs.items in
    let laters = c.offer_all-submitted.new.pairs.items in
    let qs = c.take_step-taken.new.pairs.items in
    let o0 = c.args.self.now.out in
    let o1 = c.enqueue_burst-sent.new.burst in
    let o2 = c.complete_all-completed.new.out in
    let o3 = c.take_step-taken.new.out in
    let n = c.enqueue_burst-sent.result in
    let m = c.take_step-taken.result in
    let sent = c.enqueue_burst-sent.ensures in
    let done = c.complete_all-completed.ensures in
    let took = c.take_step-taken.ensures in
    let answers = drop (length o1.ops) o2.ops in
    let i0 = g.P.EventPort.inbox c.args.port.now in
    let i1 = g.P.EventPort.inbox c.enqueue_burst-sent.new.self in
    let same : i1 ≡ i0 = sent.inbox in
    let ids = c.offer_all-submitted.ensures.ids ∙ done.ids in
    let r1 = sent_room o0 o1 n sent.rest c.args.self.now.out_cap in
    let r2 : o2.ops ≡ drop n o0.ops ++ answers = done_ops o0 o1 o2 n sent.rest done.kept in
    let b0 = g.P.EventPort.balks c.args.port.now in
    let b1 = g.P.EventPort.balks c.enqueue_burst-sent.new.self in
    let b2 = g.P.EventPort.balks c.take_step-taken.new.port in
    let completing : Along R (64 - length (drop n o0.ops)) ps mids answers = subst (λ x. Along R x ps mids answers) r1 (rw c.completion_kind-kind.ensures at done.step) in
    let dealing : Each (Dealt (take m i0)) laters qs = rw same at took.step.dealing in
    record {
      mids = mids;
      laters = laters;
      answers = answers;
      accepted = c.offer_all-submitted.ensures.step.0;
      completing = completing;
      offering = c.offer_all-submitted.ensures.step.1;
      dealing = dealing;
      out = out_ops o0 o1 o2 o3 n (strangers laters (take m i1)) (strangers ps (take m i0)) sent.rest done.kept took.step.out (strangers_same ps laters (take m i1) ids ∙ ap (λ l. strangers ps (take m l)) same);
      served = served_at g.D.Driver g.met.D.Driver.follows_on (kind_of c.args.self.now.mode) (64 - length (drop n o0.ops)) ps mids laters qs (take m i0) answers c.offer_all-submitted.ensures.step.0 completing c.offer_all-submitted.ensures.step.1 dealing;
      completed = let l = length-drop (length o1.ops) o2.ops in omega (arith, l, done.count);
      submitted = sym c.offer_all-submitted.ensures.step.2;
      none_taken = took.new;
      taken = rw (r2, same) at took.step.within;
      cause = λ f less. rose_since b0 b1 b2 sent.balks (took.cause f (rw (← r2, ← same) at less));
      told = λ f s e. rw (r2, same) at (took.told f (s - n) (sent.spare ∙ ap (option_map (λ x. x - n)) e));
    }

pub returns-clause-order : goal.returns-clause-order
returns-clause-order g c =
    let R = Completed g.D.Driver (kind_of c.args.self.now.mode) in
    let ps = c.args.self.now.pairs.items in
    let mids = c.complete_all-completed.new.pairs.items in
    let laters = c.offer_all-submitted.new.pairs.items in
    let qs = c.take_step-taken.new.pairs.items in
    let o0 = c.args.self.now.out in
    let o1 = c.enqueue_burst-sent.new.burst in
    let o2 = c.complete_all-completed.new.out in
    let o3 = c.take_step-taken.new.out in
    let n = c.enqueue_burst-sent.result in
    let m = c.take_step-taken.result in
    let sent = c.enqueue_burst-sent.ensures in
    let done = c.complete_all-completed.ensures in
    let took = c.take_step-taken.ensures in
    let answers = drop (length o1.ops) o2.ops in
    let i0 = g.P.EventPort.inbox c.args.port.now in
    let i1 = g.P.EventPort.inbox c.enqueue_burst-sent.new.self in
    let same : i1 ≡ i0 = sent.inbox in
    let ids = c.offer_all-submitted.ensures.ids ∙ done.ids in
    let completing : Along R (room_of o1) ps mids answers = rw c.completion_kind-kind.ensures at done.step in
    let dealing : Each (Dealt (take m i0)) laters qs = rw same at took.step.dealing in
    order_each g.D.Driver g.met.D.Driver.keeps_order (kind_of c.args.self.now.mode) (room_of o1) n ps mids laters qs (take m i0) o0.ops o3.ops answers c.offer_all-submitted.ensures.step.0
    c.args.self.now.distinct completing c.offer_all-submitted.ensures.step.1 dealing
    (out_ops o0 o1 o2 o3 n (strangers laters (take m i1)) (strangers ps (take m i0)) sent.rest done.kept took.step.out (strangers_same ps laters (take m i1) ids ∙ ap (λ l. strangers ps (take m l)) same))

pub returns-clause-bag : goal.returns-clause-bag
returns-clause-bag g c =
    let driver = g.D.Driver in
    let o0 = c.args.self.now.out in
    let o1 = c.enqueue_burst-sent.new.burst in
    let o2 = c.complete_all-completed.new.out in
    let o3 = c.take_step-taken.new.out in
    let n = c.enqueue_burst-sent.result in
    let m = c.take_step-taken.result in
    let i0 = g.P.EventPort.inbox c.args.port.now in
    let laters = c.offer_all-submitted.new.pairs.items in
    let qs = c.take_step-taken.new.pairs.items in
    let last : IsPermutation (inside driver laters o2.ops ++ map source_of (take m i0)) (inside driver qs o3.ops) = rw c.enqueue_burst-sent.ensures.inbox at c.take_step-taken.ensures.step.bag in
    run_bag (flat_map (bag_of driver) c.args.self.now.pairs.items) (flat_map (bag_of driver) c.complete_all-completed.new.pairs.items) (flat_map (bag_of driver) laters)
    (map source_of o0.ops) (map source_of o1.ops) (map source_of o2.ops) (map source_of (take n o0.ops)) (map source_of (take m i0)) (inside driver qs o3.ops)
    (sent_sources source_of o0 o1 n c.enqueue_burst-sent.ensures.rest) c.complete_all-completed.ensures.bag c.offer_all-submitted.ensures.bag last
