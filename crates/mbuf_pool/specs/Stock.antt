-- What contracts see of a pool of one thread.
use Rattle.std.specs.Prelude.{ℕ, ◌+◌, ◌-◌, min}

-- how many segments are left in it, and how many it keeps at most
pub record Stock : Type 0 where
  pub left : ℕ
  pub most : ℕ

-- a full one
abbrev pub full : ℕ → Stock
full n = record { left = n; most = n }

-- with one segment fewer, or none as before
abbrev pub taken : Stock → Stock
taken s = record { left = s.left - 1; most = s.most }

-- with one segment more, or as many as it keeps
abbrev pub given : Stock → Stock
given s = record { left = min (s.left + 1) s.most; most = s.most }
