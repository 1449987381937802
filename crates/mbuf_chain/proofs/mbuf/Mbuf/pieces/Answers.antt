use Rattle.std_collections.proofs.IterRuns.{shows_in_order}
use Rattle.std.proofs.Common.{List, ap, ◌∙◌}
use Rattle.std.specs.Map.Iter.{deref}
use Rattle.seg_list.specs.Buffer.{Buffer}
use Rattle.mbuf_chain.specs.Pieces.{joined, pieces_of}
use Rattle.mbuf_chain.proofs.Ranges.{joined-pieces_of}
use Rattle.mbuf_chain.proofs.mbuf.Mbuf.pieces.Goals as goal

pub returns-clause-all : goal.returns-clause-all
returns-clause-all c =
    ap joined c.of.ensures ∙ ap (λ (s : List Buffer). joined (pieces_of c.args.off c.args.len s)) (c.iter.ensures.rest ∙ c.self.view_is) ∙ joined-pieces_of c.args.off c.args.len c.args.self.now c.requires

pub returns-clause-runs : goal.returns-clause-runs
returns-clause-runs c = shows_in_order deref
