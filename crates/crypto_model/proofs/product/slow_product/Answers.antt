use Rattle.std.proofs.Common.{arith}
use Rattle.crypto_model.proofs.BlockBits.{bit_left, bit_taken, product_begins, product_ends}
use Rattle.crypto_model.proofs.product.slow_product.Goals as goal
use Rattle.crypto_model.proofs.product.slow_product.Goals.{then-x-i-eq1, else-x-i-eq1}

pub bits-init : goal.bits-init
bits-init c = product_begins c.args.x c.args.y

pub bits-preserved : goal.bits-preserved
bits-preserved c = elim c.if-x-i-eq1.branch [
  | then-x-i-eq1 w ↦
      rw w.z-is (bit_taken c.args.x c.bits.z c.bits.v _ c.bits.i _ c.bits-test.true w.if-x-i-eq1.true c.bits.invariant c.times_x-v.ensures)
  | else-x-i-eq1 w ↦
      rw w.z-is (bit_left c.args.x c.bits.z c.bits.v _ c.bits.i _ c.bits-test.true (omega (arith, w.if-x-i-eq1.false)) c.bits.invariant c.times_x-v.ensures)
]

pub returns : goal.returns
returns c = product_ends c.args.x c.bits.z c.bits.v c.bits.i _ (omega arith) c.bits.invariant
