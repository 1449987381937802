-- Where nothing is pending.
use Rattle.std.proofs.Common.{◌≡◌, ℕ, ◌<◌, ◌≤◌, List, [], length, get_or, Option, None, Some, ap, ◌∙◌, arith}
use Rattle.std.proofs.lemmas.List.{nil_from_length}
use Rattle.crypto_op.specs.Op.{Entry}
use Rattle.dev_core.specs.declared.driver.Driver.{Ghosts}
use Rattle.sched_core.specs.declared.ring.Slot.{Slot}
use Rattle.sched_core.specs.Pending.{IsRingSound, pending_of}
use Rattle.sched_core.specs.Ring.{Ring}
use Rattle.sched_core.proofs.Dealt.{some_at}
use Rattle.sched_modes.specs.Pool.{held_in, pending_in}
use Rattle.sched_modes.specs.declared.pool.Pool.{Pool}
use Rattle.sched_modes.proofs.Ahead.{length_pending}
use Rattle.sched_modes.proofs.Held.{held_within, same_at}
use Rattle.sched_modes.proofs.Open.{length_held}

none_held : {C : Type 0} (ring : Option (Ring (Slot C))) (es : List (Entry C)) → IsRingSound ring es → pending_of ring es ≡ [] → length es ≡ 0
none_held None es s e = ap length e
none_held (Some r) es s e = omega (arith, length_held r es s.0, length_pending r es s, ap length e)

-- no worker holds anything
pub all_idle : {C D : Type 0} {m : Ghosts D C} (p : Pool C D m) → p.workers ≤ length p.devs.items → IsRingSound p.ring (held_in p) → pending_in p ≡ [] → (k : ℕ) (d : D) → k < p.workers → m.held (get_or p.devs.items k d) ≡ []
all_idle {m = m} p within sound none k d lt =
    let below : k < length p.devs.items = omega (arith, lt, within) in
    let at = some_at p.devs.items k below in
    let is = same_at p.devs.items k at.0 d below at.1 in
    let few = held_within m.held p.devs.items p.workers k at.0 lt below at.1 in
    let all = none_held p.ring (held_in p) sound none in
    ap m.held is ∙ nil_from_length (m.held at.0) (omega (arith, few, all))
