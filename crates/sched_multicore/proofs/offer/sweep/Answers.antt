use Rattle.std.proofs.Common.{arith, subst, ◌∙◌, ◌≡◌, ◌+◌, ◌*◌, ◌≤◌, ◌<◌, suc, length}
use Rattle.sched_multicore.specs.Carry.{Counts}
use Rattle.sched_multicore.specs.Sweep.{FoundAt, PassedAt, Swept}
use Rattle.sched_multicore.proofs.Counting.{counts_taken, counts_then}
use Rattle.sched_multicore.proofs.Handing.{same_on}
use Rattle.sched_multicore.proofs.Passing.{hands_on, swept_more, swept_on}
use Rattle.sched_multicore.proofs.offer.sweep.Goals as goal

pub loop-code-preserved : goal.loop-code-preserved
loop-code-preserved g c =
    let v = c.loop-code.invariant in
    let m = c.make_room-given_back.ensures in
    let t = c.take_at-taken.ensures in
    let first = c.args.dev.now in
    let dev = c.loop-code.dev in
    let dev' = c.make_room-given_back.new.dev in
    let s = c.loop-code.carrier in
    let s' = c.make_room-given_back.new.carrier in
    let z = c.take_at-taken.new.self in
    let limit = g.met.D.Device.keeps_depth first dev v.follows in
    let fits = g.met.D.Device.within_depth first in
    let fits' = subst (λ n. length (g.D.Driver.held dev) ≤ n) limit (g.met.D.Device.within_depth dev) in
    let step = subst (λ n. Counts n (length (g.D.Driver.held dev)) (g.D.Driver.stalls dev) (length s.burst.ops) c.make_room-given_back.result (length s'.burst.ops)
    (length (g.D.Driver.held dev')) (g.D.Driver.stalls dev')) limit m.counts in
    let counts = counts_then (g.D.Device.limit first) _ _ _ _ _ _ _ _ _ _ _ fits fits' v.counts step in
    let slots = m.same.slots ∙ v.same.slots in
    let hands = c.args.carrier.now.hands.items in
    let before = hands_on hands s.hands.items s'.hands.items v.same.hands m.same.hands in
    let swept = swept_on c.args.carrier.now.slots c.loop-code.code hands s.hands.items s'.hands.items c.loop-code.taken v.same.hands m.same.hands v.swept in
    let passed : c.take_at-taken.result ≡ 0 → PassedAt c.args.carrier.now.slots c.loop-code.code s'.hands.items z.hands.items = λ e. subst (λ n. PassedAt n c.loop-code.code s'.hands.items z.hands.items) slots (t.passed e) in
    let found : 0 < c.take_at-taken.result → FoundAt c.args.carrier.now.slots c.loop-code.code s'.hands.items z.hands.items = λ e. subst (λ n. FoundAt n c.loop-code.code s'.hands.items z.hands.items) slots (t.found e) in
    let next : suc c.loop-code.code ≡ c.loop-code.code + 1 = omega arith in
    record {
      laden = t.laden (g.D.Driver.sessions dev') (g.D.Driver.held dev') m.laden;
      fresh = t.fresh m.fresh;
      same = same_on _ s' z (same_on _ s s' v.same m.same) t.same;
      swept = subst (λ n. Swept c.args.carrier.now.slots n hands z.hands.items (c.loop-code.taken + c.take_at-taken.result)) next
          (swept_more c.args.carrier.now.slots c.loop-code.code hands s'.hands.items z.hands.items c.loop-code.taken c.take_at-taken.result before t.same.hands t.few passed found swept);
      few = omega (arith, v.few, t.few);
      counts = counts_taken _ _ _ _ _ _ c.take_at-taken.result (length z.burst.ops) _ _ t.count counts;
      sum = t.sum ∙ m.sum ∙ v.sum;
      enqueued = λ n e. m.enqueued n (v.enqueued n e);
      sessions = m.sessions ∙ v.sessions;
      follows = g.met.D.Driver.follows_on first dev dev' v.follows m.follows;
    }

pub returns-clause-same : goal.returns-clause-same
returns-clause-same g c = same_on _ _ _ c.loop-code.invariant.same c.offer-given_back.ensures.same

pub returns-clause-swept : goal.returns-clause-swept
returns-clause-swept g c =
    let v = c.loop-code.invariant in
    let s = c.args.carrier.now in
    let all : c.loop-code.code ≡ length s.hands.items * s.slots = omega arith in
    subst (λ n. Swept s.slots n s.hands.items c.offer-given_back.new.carrier.hands.items c.loop-code.taken) all
    (swept_on s.slots c.loop-code.code s.hands.items _ _ c.loop-code.taken v.same.hands c.offer-given_back.ensures.same.hands v.swept)
