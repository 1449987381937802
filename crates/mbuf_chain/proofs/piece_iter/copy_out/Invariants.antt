use Rattle.std.proofs.Common.{◌≡◌, length, take}
use Rattle.std.specs.Prelude.{map}
use Rattle.std.specs.Map.Iter.{deref}
use Rattle.mbuf_chain.specs.Pieces.{joined}
use Rattle.mbuf_chain.proofs.piece_iter.copy_out.Given as goal

abbrev pub invariant-loop-piece : goal.invariant-loop-piece
invariant-loop-piece l = (take l.done l.out ≡ joined (map deref l.yielded)) × (l.done ≡ length (joined (map deref l.yielded)))
