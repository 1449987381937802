-- What contracts see of a pass.
use Rattle.std.specs.Prelude.{ℕ}
use Rattle.atomic_table.specs.Seated.{TableId}

-- the pool that it is of, and how many fresh segments it took
pub record Ticket : Type 0 where
  pub pool : TableId
  pub fresh : ℕ

-- a pass of the pool that took none
abbrev pub new_ticket : TableId → Ticket
new_ticket pool = record { pool = pool; fresh = 0 }
