-- What an operation ends as, once a loan of its packet is over.
use Rattle.std.specs.Prelude.{List}
use Rattle.std.specs.Borrow.{Lends, MutBor, Fml, RattleType}
use Rattle.seg_list.specs.Buffer.{Buffer}
use Rattle.mbuf_chain.specs.contracts.mbuf.Mbuf as mbuf
use Rattle.crypto_op.specs.Op.{with_chain}
use Rattle.crypto_op.specs.declared.op.Op.{Op}
use Rattle.crypto_op.specs.contracts.op.Op as op

-- the operation ends with the last packet behind r
abbrev pub LendsChain : (C : RattleType) → MutBor (Op C.Denot) → MutBor (List Buffer) → Fml
LendsChain C s r = Lends (op.the_row C) mbuf.the_row s r (with_chain s.now)
