use Rattle.std.proofs.Common.{◌≡◌, ℕ, ◌-◌, ◌*◌, ◌/◌, ◌^◌, List, length, drop}
use Rattle.crypto_model.specs.Gcm.{bits_128, block_product}
use Rattle.gcm_core.specs.Tables.{IsTable, times_power}
use Rattle.gcm_core.proofs.table.product.Given as goal

abbrev pub invariant-loop-r : goal.invariant-loop-r
invariant-loop-r l = record {
  rest : l.rest ≡ l.x / 2 ^ (4 * (32 - l.r));
  product : (h : List ℕ) → length h ≡ 128 → IsTable h l.table → bits_128 l.product ≡ block_product (drop (4 * l.r) (bits_128 l.x)) (times_power (4 * l.r) h);
}
