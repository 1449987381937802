use Rattle.std.proofs.Common.{◌++◌, ℕ, List}
use Rattle.std.specs.Prelude.{map}
use Rattle.std.specs.Map.Iter.{deref}
use Rattle.mbuf_chain.specs.Pieces.{joined}
use Rattle.sym_engine.proofs.walk.feed_range.Given as goal

abbrev pub invariant-loop-piece : goal.invariant-loop-piece
invariant-loop-piece g l = (begun : g.A.Absorb.Begun) (text : List ℕ) → g.A.Absorb.holds begun l.fn.into text → g.A.Absorb.holds begun l.into (text ++ joined (map deref l.yielded))
