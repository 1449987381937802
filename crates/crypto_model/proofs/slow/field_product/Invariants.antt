use Rattle.std.proofs.Common.{◌≡◌, ◌<◌, ◌-◌, ◌^◌}
use Rattle.crypto_model.specs.Field.{times, remainder, product}
use Rattle.crypto_model.proofs.slow.field_product.Given as goal

abbrev pub invariant-bits : goal.invariant-bits
invariant-bits l = l.p ≡ times l.a l.b l.n

abbrev pub invariant-degrees : goal.invariant-degrees
invariant-degrees l = (l.p < 2 ^ (16 - l.n)) × (remainder l.p (8 - l.n) ≡ product l.a l.b)
