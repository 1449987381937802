-- Why words ask for nothing.
use Rattle.std.specs.Prelude.{ℕ}

-- the words are not legal, or their scheduler text is not, from this place on
pub data Fault : Type 0 where
  NotLegal : Fault
  BadText : (at : ℕ) → Fault
