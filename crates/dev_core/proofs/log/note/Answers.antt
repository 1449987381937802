use Rattle.std.proofs.Common.{◌<◌, ◌∷◌, [], length, arith}
use Rattle.std.proofs.lemmas.List.{append_assoc}
use Rattle.dev_core.specs.Burst.{front_log, log_entry}
use Rattle.dev_core.proofs.Logged.{front_log-next}
use Rattle.dev_core.proofs.log.note.Goals as goal

pub loop-i-preserved : goal.loop-i-preserved
loop-i-preserved g c =
    let here : c.loop-i.i < length c.args.burst.now.ops = omega arith in
    let op = c.get-op.result.now in
    let next = front_log-next c.args.burst.now c.loop-i.i op here c.get-op.ensures in
    record {
      items = rw (c.in-Ok.ensures.items, c.spec.ensures, c.spec-in-loop-i.ensures, c.data_len.ensures, c.loop-i.invariant.items, next) (append_assoc c.args.log.now.items (front_log c.loop-i.i c.args.burst.now) (log_entry op ∷ []));
      len = omega (arith, c.in-Ok.ensures.len, c.loop-i.invariant.len);
      capacity = omega (arith, c.in-Ok.ensures.capacity);
    }
