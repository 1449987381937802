use Rattle.std.proofs.Common.{arith, inl, inr}
use Rattle.std.proofs.lemmas.Grind.{common_steps}
use Rattle.crypto_model.proofs.Comparing.{compared_all, compared_more}
use Rattle.crypto_model.proofs.compare.is_same.Goals as goal

pub loop-x-preserved : goal.loop-x-preserved
loop-x-preserved c =
    let left = c.in-Some.ensures.steps.0 in
    let right = c.in-Some.ensures.steps.1 in
    record {
      as_long = grind (arith, common_steps, left, right, c.loop-x.invariant.as_long);
      same_rest = compared_more c.loop-x.difference c.in-Some.x.now c.in-Some.y.now _ _ _ _ _ left right c.loop-x.invariant.same_rest;
    }

pub returns : goal.returns
returns c =
    compared_all c.loop-x.difference _ _ _ c.loop-x.invariant.as_long
    (elim c.in-None.ensures.steps [ inl p ↦ inl p.1.0 | inr p ↦ inr p.1.0 ]) c.loop-x.invariant.same_rest
