use Rattle.std.proofs.Common.{arith, ap, subst, ◌∙◌, ◌≡◌, ◌++◌, List, length, map, drop}
use Rattle.std.specs.List.{All}
use Rattle.std.proofs.lemmas.List.Sorted.{IsPermutation-sym}
use Rattle.crypto_op.specs.Burst.{Burst}
use Rattle.crypto_op.specs.Op.{IsDone, entry_of}
use Rattle.dev_core.specs.declared.stats.Stats.{Stats}
use Rattle.flight_table.specs.Rule.{Flying}
use Rattle.sched_multicore.proofs.Carrying.{carried_permutation}
use Rattle.sched_multicore.proofs.Moving.{all_back, fewer_held}
use Rattle.sched_multicore.proofs.Passing.{hands_on}
use Rattle.sched_multicore.proofs.finish.finish_returned.Goals as goal

pub finish_all-requires : goal.finish_all-requires
finish_all-requires g c =
    let v = c.loop-finished.invariant in
    let e = c.dequeue_burst-n.ensures in
    let s = c.loop-finished.carrier in
    let ops = c.dequeue_burst-n.new.out.ops in
    let held = g.D.Driver.held c.loop-finished.dev in
    let held' = g.D.Driver.held c.dequeue_burst-n.new.self in
    let sessions = g.D.Driver.sessions c.loop-finished.dev in
    let back = all_back entry_of s.burst.ops ops held' held v.empty e.held in
    let laden = carried_permutation s.index s.slots sessions s.hands.items s.saved.items held (map entry_of ops ++ held') (IsPermutation-sym (map entry_of ops ++ held') held back) v.laden in
    let done = subst (λ (l : List Flying). All (IsDone sessions) (drop (length l) ops)) v.empty e.done in
    record { done = (sessions, held', laden, done) }

pub returns-then-n-asked-clause-laden : goal.returns-then-n-asked-clause-laden
returns-then-n-asked-clause-laden g c =
    let v = c.loop-finished.invariant in
    let e = c.dequeue_burst-n.ensures in
    let s = c.loop-finished.carrier in
    let ops = c.dequeue_burst-n.new.out.ops in
    let held = g.D.Driver.held c.loop-finished.dev in
    let held' = g.D.Driver.held c.dequeue_burst-n.new.self in
    let sessions = g.D.Driver.sessions c.loop-finished.dev in
    let back = all_back entry_of s.burst.ops ops held' held v.empty e.held in
    let laden = carried_permutation s.index s.slots sessions s.hands.items s.saved.items held (map entry_of ops ++ held') (IsPermutation-sym (map entry_of ops ++ held') held back) v.laden in
    rw e.sessions (c.finish_all.ensures.unloads.laden sessions held' laden)

pub returns-then-n-asked-clause-same : goal.returns-then-n-asked-clause-same
returns-then-n-asked-clause-same g c =
    let v = c.loop-finished.invariant.same in
    let u = c.finish_all.ensures.unloads.same in
    let cap = ap (λ (b : Burst Flying). b.cap) c.dequeue_burst-n.ensures.kept in
    record { hands = hands_on _ _ _ v.hands u.hands; codes = u.codes ∙ v.codes; cap = u.cap ∙ cap ∙ v.cap; slots = u.slots ∙ v.slots; index = u.index ∙ v.index }

pub loop-finished-preserved : goal.loop-finished-preserved
loop-finished-preserved g c =
    let v = c.loop-finished.invariant in
    let u = c.finish_all.ensures.unloads in
    let e = c.dequeue_burst-n.ensures in
    let s = c.loop-finished.carrier in
    let ops = c.dequeue_burst-n.new.out.ops in
    let held = g.D.Driver.held c.loop-finished.dev in
    let held' = g.D.Driver.held c.dequeue_burst-n.new.self in
    let sessions = g.D.Driver.sessions c.loop-finished.dev in
    let back = all_back entry_of s.burst.ops ops held' held v.empty e.held in
    let laden = carried_permutation s.index s.slots sessions s.hands.items s.saved.items held (map entry_of ops ++ held') (IsPermutation-sym (map entry_of ops ++ held') held back) v.laden in
    let none = ap (λ (l : List Flying). length l) v.empty in
    let count : length ops ≡ c.dequeue_burst-n.result = omega (arith, none, e.count) in
    let fewer = fewer_held entry_of ops held held' c.dequeue_burst-n.result back count in
    let cap = ap (λ (b : Burst Flying). b.cap) e.kept in
    record {
      laden = rw e.sessions (u.laden sessions held' laden);
      empty = u.empty;
      same = record { hands = hands_on _ _ _ v.same.hands u.same.hands; codes = u.same.codes ∙ v.same.codes; cap = u.same.cap ∙ cap ∙ v.same.cap; slots = u.same.slots ∙ v.same.slots; index = u.same.index ∙ v.same.index };
      due = v.due;
      held = omega (arith, v.held, fewer);
      stalls = omega (arith, v.stalls, e.stalls);
      sum = omega (arith, v.sum, c.finish_all.ensures.sum, count);
      enqueued = ap (λ (x : Stats). x.enqueued) e.stats ∙ v.enqueued;
      sessions = e.sessions ∙ v.sessions;
      follows = g.met.D.Driver.follows_on _ _ _ v.follows e.follows;
    }
