use Rattle.std.proofs.Common.{◌-◌, ◌∙◌, length, arith, length-take, length-drop}
use Rattle.capture_io.proofs.Parts.{written_more}
use Rattle.capture_io.proofs.pieces.write_all.Goals as goal

pub loop-at-preserved : goal.loop-at-preserved
loop-at-preserved g c = record {
  within = omega (arith, simp (length-take, length-drop) at c.in_ok-at.ensures.within);
  written = λ told. written_more c.loop-at.at _ (length c.args.piece.now - c.loop-at.at) c.args.piece.now _ _ _ (omega arith) (c.loop-at.invariant.written told) (c.in_ok-at.ensures.appended told);
  later = omega (arith, c.loop-at.invariant.later, c.write.ensures.later);
  steady = λ keeps. c.in_ok-at.ensures.steady keeps ∙ c.loop-at.invariant.steady keeps;
}
