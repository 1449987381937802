-- What a segment or a list ends as, once a loan of it is over.
use Rattle.std.specs.Prelude.{ℕ, List, slice_set}
use Rattle.std.specs.Borrow.{Lends, MutBor, Fml, u8, Array}
use Rattle.seg_list.specs.Buffer.{Buffer, relaid_at}
use Rattle.seg_list.specs.contracts.seg.Seg.{the_row as seg_row}
use Rattle.seg_list.specs.contracts.list.SegList.{the_row as list_row}

-- the data of s ends as the last bytes behind r, laid from place at of it on
abbrev pub LendsData : MutBor Buffer → ℕ → MutBor (List ℕ) → Fml
LendsData s at r = Lends seg_row (Array u8 0) s r (relaid_at at s.now)

-- buffer i of s ends as the last value behind r
abbrev pub LendsSeg : MutBor (List Buffer) → ℕ → MutBor Buffer → Fml
LendsSeg s i r = Lends list_row seg_row s r (slice_set s.now i)
