use Rattle.std.proofs.Common.{◌≡◌, ◌∙◌, ℕ, List, length, sym, subst, arith}
use Rattle.std.specs.Arc.{arc_value}
use Rattle.crypto_model.specs.Process.{Transform}
use Rattle.sched_multicore.specs.Carry.{IsHandOf}
use Rattle.multicore_bench.specs.Hands.{AreNew}
use Rattle.multicore_bench.proofs.Handed.{last_hand}
use Rattle.multicore_bench.proofs.devices.all_workers.Goals as goal

pub worker-requires-clause-hand : goal.worker-requires-clause-hand
worker-requires-clause-hand c =
    let sessions = arc_value c.args.sessions.now in
    let left = c.pop.new.self.items in
    let hand = c.in-Some.hand in
    let last = last_hand 512 sessions left hand (subst (AreNew 512 sessions) c.in-Some.ensures.items c.loop-i.invariant.new) in
    let count : c.len-index.result ≡ length left = omega (arith, c.len-index.ensures, c.pop.new.self.ok.0) in
    subst (λ (s : List (List Transform)). IsHandOf c.len-index.result 512 s hand) (sym (c.in_ok-dev.ensures.sessions ∙ c.in_ok-try_clone.ensures))
    (subst (λ (n : ℕ). IsHandOf n 512 sessions hand) (sym count) last.1)

pub worker-requires-clause-free : goal.worker-requires-clause-free
worker-requires-clause-free c =
    let sessions = arc_value c.args.sessions.now in
    (last_hand 512 sessions c.pop.new.self.items c.in-Some.hand (subst (AreNew 512 sessions) c.in-Some.ensures.items c.loop-i.invariant.new)).2

pub loop-i-preserved : goal.loop-i-preserved
loop-i-preserved c =
    let sessions = arc_value c.args.sessions.now in
    let left = c.pop.new.self.items in
    let last = last_hand 512 sessions left c.in-Some.hand (subst (AreNew 512 sessions) c.in-Some.ensures.items c.loop-i.invariant.new) in
    record { few = omega (arith, c.loop-i.invariant.few, c.pop.new.self.ok.0, c.loop-i.hands.ok.0, c.in-Some.ensures.len); new = last.0 }
