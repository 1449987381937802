-- What a packet ends as, once a loan of a piece is over.
use Rattle.std.specs.Prelude.{ℕ, List}
use Rattle.std.specs.Borrow.{Lends, MutBor, Fml, u8, Array}
use Rattle.seg_list.specs.Buffer.{Buffer}
use Rattle.mbuf_chain.specs.Piece.{piece_laid}
use Rattle.mbuf_chain.specs.Cursors.{At}
use Rattle.mbuf_chain.specs.contracts.cursor.Cursor.{the_row as cursor_row}
use Rattle.mbuf_chain.specs.contracts.mbuf.Mbuf.{the_row}

-- the packet ends with the last bytes behind r laid over the piece at off
abbrev pub LendsPiece : MutBor (List Buffer) → ℕ → MutBor (List ℕ) → Fml
LendsPiece m off r = Lends the_row (Array u8 0) m r (piece_laid off m.now)

-- the packet ends with the last bytes behind r laid over the piece at the place
abbrev pub LendsHere : MutBor At → MutBor (List ℕ) → Fml
LendsHere c r = Lends cursor_row (Array u8 0) c r (λ bytes. record c.now { chain = piece_laid c.now.at c.now.chain bytes })
