use Rattle.std.proofs.Common.{◌+◌, arith, length-take}
use Rattle.capture_io.proofs.Parts.{one_too_many}
use Rattle.capture_io.proofs.text.read_text.Goals as goal

pub returns-then-room-n-clause-soon : goal.returns-then-room-n-clause-soon
returns-then-room-n-clause-soon g c told large =
    one_too_many c.args.limit c.in-Ok.n c.loop-n.text.items c.fill.new.buf _ _ _
    (omega (arith, c.in-Ok.ensures.within, c.min.ensures, length-take (c.min.result + 1) c.loop-n.buffer))
    (omega (arith, c.in-Ok.ensures.within, c.fill.auto.buf))
    (c.loop-n.invariant.found told) (c.in-Ok.ensures.taken told)
