use Rattle.std.proofs.Common.{◌≡◌, length, ap, ◌∙◌, sym, arith, Err}
use Rattle.event_adapter.specs.declared.queue_pair.QueuePair.{QueuePair}
use Rattle.event_adapter.specs.declared.refused.DelRefused.TheVariants.{Pending}
use Rattle.event_adapter.proofs.adapter.Adapter.queue_pair_del.Goals as goal

pub returns-then-n-gt0-clause-pending : goal.returns-then-n-gt0-clause-pending
returns-then-n-gt0-clause-pending g c = λ n.
    let x = c.pending_at-n.ensures.exact in (
      λ e. let m : c.pending_at-n.result ≡ n = cc in (sym c.in-Some.ensures.known, omega (arith, x, c.if-n-gt0.true), omega (arith, x, m)),
      λ p. ap (λ k. Err (Pending k)) (x ∙ sym p.2),
    )

pub give_idle-requires-clause-empty : goal.give_idle-requires-clause-empty
give_idle-requires-clause-empty g c =
    let d = c.remove_pair-waiting.result in
    let z = c.pending_at-n.ensures.empty (omega (arith, c.if-n-gt0.false)) d in
    ap (λ (y : QueuePair g.row.C.Denot g.row.D.Denot). length y.waiting.ops) (sym (c.remove_pair-waiting.ensures.result d)) ∙ z

pub returns-else-n-gt0-clause-pending : goal.returns-else-n-gt0-clause-pending
returns-else-n-gt0-clause-pending g c = λ n.
    let x = c.pending_at-n.ensures.exact in
    (λ e. absurd cc, λ p. absurd (omega (arith, x, p.1, c.if-n-gt0.false)))
