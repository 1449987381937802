use Rattle.std.proofs.Common.{◌≡◌, ◌+◌, ◌++◌, length, map, ap, ◌∙◌, arith, Some}
use Rattle.crypto_op.specs.Op.{entry_of}
use Rattle.sched_core.specs.Ring.{Ring, place}
use Rattle.sched_core.specs.Pending.{IsRingSound}
use Rattle.sched_core.proofs.Settling.{settle_step, none_behind, done_settled, done_first, length-settled_at}
use Rattle.sched_core.proofs.settle.settle_all.Goals as goal

pub settle-requires : goal.settle-requires
settle-requires g c =
    let held = c.requires.0 in
    (settle_step c.loop-i.ring held c.loop-i.burst.ops c.in-Some.op c.pop.new.self.ops c.in-Some.ensures.ops (c.loop-i.invariant.sound held c.requires.1)).is_open

pub loop-i-preserved : goal.loop-i-preserved
loop-i-preserved g c =
    let r = c.loop-i.ring in
    let op = c.in-Some.op in
    let rest = c.pop.new.self.ops in
    let at = place r op.spec.pos in
    let now = c.loop-i.invariant in
    record {
      sound = λ held sound. rw c.settle.ensures (settle_step r held c.loop-i.burst.ops op rest c.in-Some.ensures.ops (now.sound held sound)).sound;
      pending = λ held sound. rw c.settle.ensures ((settle_step r held c.loop-i.burst.ops op rest c.in-Some.ensures.ops (now.sound held sound)).pending ∙ now.pending held sound);
      done = λ sessions slots ops.
          let d = now.done sessions slots ops in
          let first = done_first sessions c.loop-i.burst.ops op rest c.in-Some.ensures.ops d.1 in
          (rw c.settle.ensures (done_settled sessions r.slots at op d.0 first.0), first.1);
      left = omega (arith, ap length c.in-Some.ensures.ops, now.left);
      ring = (
        ap (λ (s : Ring _). s.cap) c.settle.ensures ∙ now.ring.0,
        ap (λ (s : Ring _). s.first) c.settle.ensures ∙ now.ring.1,
        ap (λ (s : Ring _). length s.slots) c.settle.ensures ∙ (length-settled_at r.slots at op ∙ now.ring.2),
      );
      cap = c.in-Some.ensures.cap ∙ now.cap;
    }

pub returns-clause-back : goal.returns-clause-back
returns-clause-back g c held sound =
    let none : length c.loop-i.burst.ops ≡ 0 = omega (arith, c.loop-i.invariant.left, c.loop-i-test.false, c.len-i-end.ensures) in (
      rw (none_behind held c.loop-i.burst.ops none) at (c.loop-i.invariant.sound held sound),
      rw (none_behind held c.loop-i.burst.ops none) at (c.loop-i.invariant.pending held sound),
    )
