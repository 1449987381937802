use Rattle.std.proofs.Common.{◌≡◌, ℕ, ◌*◌, ◌<◌, [], length}
use Rattle.std.specs.Prelude.{slice_index_or}
use Rattle.crypto_model.specs.Gcm.{bits_128}
use Rattle.gcm_core.specs.Tables.{times_power, IsRow}
use Rattle.gcm_core.proofs.table.table.Given as goal

abbrev pub invariant-loop-r : goal.invariant-loop-r
invariant-loop-r l = record {
  long : length l.table ≡ 32;
  power : bits_128 l.v ≡ times_power (4 * l.r) (bits_128 l.h);
  rows : (r : ℕ) → r < l.r → IsRow (times_power (4 * r) (bits_128 l.h)) (slice_index_or l.table r []);
}
