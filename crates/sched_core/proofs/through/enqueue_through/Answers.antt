use Rattle.std.proofs.Common.{◌≡◌, ◌≤◌, ◌<◌, ◌-◌, ◌+◌, ◌%◌, ◌^◌, ℕ, zero, suc, List, [], ◌∷◌, ◌++◌, map, option_map, refl, ap, ◌∙◌, min, length, take, arith}
use Rattle.crypto_op.specs.declared.op.Op.{Op}
use Rattle.crypto_op.specs.Burst.{Burst}
use Rattle.crypto_op.specs.Op.{moved_to}
use Rattle.dev_core.specs.Burst.{log_entry}
use Rattle.dev_core.specs.declared.driver.LogEntry.{LogEntry}
use Rattle.sched_core.specs.Pending.{number_ops}
use Rattle.sched_core.specs.Logged.{renumbered}
use Rattle.std.proofs.lemmas.List.{length-map, length-take}
use Rattle.crypto_op.specs.Op.{data_len_of}
use Rattle.dev_core.specs.Burst.{lens}
use Rattle.sched_core.proofs.Dealt.{rest_is, front_is, fresh_is, length_dealt_burst}
use Rattle.sched_core.proofs.Renumbered.{renumbered-mod}
use Rattle.sched_core.proofs.through.enqueue_through.Goals as goal

pub enqueue_burst-n-requires : goal.enqueue_burst-n-requires
enqueue_burst-n-requires g c =
    fresh_is c.args.ring.now c.args.burst.now c.number_front.new.burst c.min-offered.result c.args.max (omega arith) c.requires.fresh c.number_front.ensures.burst

pub returns-clause-rest : goal.returns-clause-rest
returns-clause-rest g c =
    rest_is c.args.ring.now c.of-before.result.value c.args.burst.now c.number_front.new.burst c.enqueue_burst-n.new.burst c.restore_front.new.burst c.of-was.result.value
    c.enqueue_burst-n.result c.min-offered.result c.of-was.ensures c.of-before.ensures c.number_front.ensures.burst c.enqueue_burst-n.ensures.rest c.restore_front.ensures.burst

pub returns-clause-held : goal.returns-clause-held
returns-clause-held g c =
    let n : c.enqueue_burst-n.result ≤ c.min-offered.result = omega (arith, c.enqueue_burst-n.ensures.offered) in
    rw (← front_is c.args.ring.now c.args.burst.now c.number_front.new.burst c.enqueue_burst-n.result c.min-offered.result n c.number_front.ensures.burst) c.enqueue_burst-n.ensures.held

pub returns-clause-within : goal.returns-clause-within
returns-clause-within g c r e =
    let ls = lens c.min-offered.result c.number_front.new.burst in
    let l = c.enqueue_burst-n.ensures.admitted (min (length ls) r) (g.met.D.Driver.room_admits c.args.worker.now r ls e) in
    omega (arith, l)

pub returns-clause-cause : goal.returns-clause-cause
returns-clause-cause g c r e less =
    let k = c.min-offered.result in
    let b = c.number_front.new.burst in
    let ls = lens k b in
    let len : length ls ≡ k = omega (arith, length-map (take k b.ops) (λ op. data_len_of op.spec), length-take k b.ops, length_dealt_burst c.args.ring.now c.args.burst.now b k c.number_front.ensures.burst, c.min-offered.ensures, c.min.ensures, c.len.ensures) in
    c.enqueue_burst-n.ensures.cause (min (length ls) r) (g.met.D.Driver.room_admits c.args.worker.now r ls e) (omega (arith, less, len, c.min-offered.ensures, c.min.ensures, c.len.ensures, c.free.ensures))

log_numbered : {C : Type 0} (a n k : ℕ) (ops : List (Op C)) → n ≤ k → map log_entry (take n (number_ops a k ops)) ≡ renumbered a (map log_entry (take n ops))
log_numbered a zero k ops h = refl
log_numbered a (suc n) zero ops h = absurd (omega (arith, h))
log_numbered a (suc n) (suc k) [] h = refl
log_numbered a (suc n) (suc k) (op ∷ ops) h = ap (λ l. log_entry (moved_to (a % 2 ^ 64) op) ∷ l) (log_numbered (a + 1) n k ops (omega (arith, h)))

pub returns-clause-log : goal.returns-clause-log
returns-clause-log g c =
    let n = c.enqueue_burst-n.result in
    let a = c.args.ring.now.first + length c.args.ring.now.slots in
    let within : n ≤ c.min-offered.result = omega (arith, c.enqueue_burst-n.ensures.offered) in
    let told = ap (λ (b : Burst _). map log_entry (take n b.ops)) c.number_front.ensures.burst ∙ (log_numbered a n c.min-offered.result c.args.burst.now.ops within ∙ renumbered-mod a (a % 2 ^ 64) (map log_entry (take n c.args.burst.now.ops)) (omega arith)) in
    c.enqueue_burst-n.ensures.log ∙ ap (λ (es : List LogEntry). option_map (λ (l : List LogEntry). l ++ es) (g.D.Driver.log c.args.worker.now)) told
