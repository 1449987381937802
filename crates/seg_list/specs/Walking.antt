-- What a walked list ends as, once a loan of its next segment is over.
use Rattle.std.specs.Prelude.{slice_set}
use Rattle.std.specs.Borrow.{Lends, MutBor, Fml}
use Rattle.seg_list.specs.Buffer.{Buffer, Walked}
use Rattle.seg_list.specs.contracts.seg.Seg.{the_row as seg_row}
use Rattle.seg_list.specs.contracts.walk.Walk.{the_row as walk_row}

-- the first of the rest ends as the last value behind r
abbrev pub LendsFirst : MutBor Walked → MutBor Buffer → Fml
LendsFirst w r = Lends walk_row seg_row w r (λ b. record w.now { rest = slice_set w.now.rest 0 b })
