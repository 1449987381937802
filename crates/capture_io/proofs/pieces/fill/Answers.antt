use Rattle.std.proofs.Common.{arith}
use Rattle.capture_io.proofs.Parts.{taken_more, in_filled}
use Rattle.capture_io.proofs.pieces.fill.Goals as goal

pub loop-at-preserved : goal.loop-at-preserved
loop-at-preserved g c = record {
  within = in_filled c.loop-at.at c.in_ok-n.n _ c.loop-at.buf c.read.new.buf c.loop-at.invariant.within (omega (arith, c.in_ok-n.ensures.within, c.read.auto.buf));
  taken = λ told. taken_more c.loop-at.at c.in_ok-n.n _ c.loop-at.buf c.read.new.buf _ _ _ c.loop-at.invariant.within (omega (arith, c.in_ok-n.ensures.within, c.read.auto.buf)) (c.loop-at.invariant.taken told) (c.in_ok-n.ensures.taken told);
  later = omega (arith, c.loop-at.invariant.later, c.read.ensures.later);
}
