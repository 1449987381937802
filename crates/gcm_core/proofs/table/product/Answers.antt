use Rattle.std.proofs.Common.{◌≡◌, ◌<◌, ◌+◌, ◌-◌, ◌%◌, arith}
use Rattle.gcm_core.proofs.NibbleProducts.{all_taken, nibble_taken, none_taken, rest_more}
use Rattle.gcm_core.proofs.table.product.Goals as goal

pub loop-r-init : goal.loop-r-init
loop-r-init c = record { rest = omega arith; product = λ h long table. none_taken c.args.x h }

pub loop-r-preserved : goal.loop-r-preserved
loop-r-preserved c =
    let before = c.loop-r.invariant in
    let s = c.loop-r.r - 1 in
    let next : c.loop-r.r ≡ s + 1 = omega arith in
    let inside : s < 32 = omega arith in
    record {
      rest = rest_more c.args.x c.loop-r.r s c.loop-r.rest next inside before.rest;
      product = λ h long table.
          nibble_taken c.args.x c.loop-r.r s c.loop-r.rest c.loop-r.product _ h next inside long before.rest (before.product h long table)
          (table s inside (c.loop-r.rest % 16) (omega arith));
    }

pub returns : goal.returns
returns c = λ h long table. all_taken c.args.x c.loop-r.r c.loop-r.product h (omega arith) (c.loop-r.invariant.product h long table)
