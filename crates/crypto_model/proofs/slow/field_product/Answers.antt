use Rattle.std.proofs.Common.{rules, ℕ, ap, ◌≡◌, refl, arith}
use Rattle.crypto_model.specs.Field.{product, times, remainder}
use Rattle.crypto_model.proofs.FieldSteps.{times_more, times_same, degree_cleared, degree_clear, clear_bit, set_bit, shifted_fits, modulus_fits}
use Rattle.crypto_model.proofs.slow.field_product.Goals as goal
use Rattle.crypto_model.proofs.slow.field_product.Goals.{then-b-n-eq1, else-b-n-eq1, then-p-n-eq1, else-p-n-eq1}

pub bits-init : goal.bits-init
unfolding times
bits-init c = refl

pub bits-preserved : goal.bits-preserved
bits-preserved c = elim c.if-b-n-eq1.branch [
  | then-b-n-eq1 w ↦
      let f = shifted_fits c.args.a c.bits.n (search rules) c.bits-test.true in
      times_more c.args.a c.args.b c.bits.n c.bits.p _ c.bits.invariant (set_bit _ _ w.if-b-n-eq1.true) (rw f at w.p-is)
  | else-b-n-eq1 w ↦ times_same c.args.a c.args.b c.bits.n c.bits.p _ c.bits.invariant (clear_bit _ _ w.if-b-n-eq1.false) w.p-is
]

pub degrees-init : goal.degrees-init
unfolding product
degrees-init c =
    let e : c.bits.n ≡ 8 = omega arith in
    (search rules, ap (λ (p : ℕ). remainder p 8) (rw e at c.bits.invariant))

pub degrees-preserved : goal.degrees-preserved
degrees-preserved c = elim c.if-p-n-eq1.branch [
  | then-p-n-eq1 w ↦
      let f = modulus_fits c.degrees.n c.degrees-test.true in
      degree_cleared c.degrees.p _ c.degrees.n _ c.degrees-test.true c.degrees.invariant (set_bit _ _ w.if-p-n-eq1.true) (rw f at w.p-is)
  | else-p-n-eq1 w ↦ degree_clear c.degrees.p _ c.degrees.n _ c.degrees-test.true c.degrees.invariant (clear_bit _ _ w.if-p-n-eq1.false) w.p-is
]

pub returns : goal.returns
unfolding product remainder
returns c =
    let e : c.degrees.n ≡ 8 = omega arith in
    let i = c.degrees.invariant.1 in
    rw e at i
