use Rattle.std.proofs.Common.{◌≡◌}
use Rattle.seg_list.specs.Links.{place_of}
use Rattle.seg_list.proofs.chain.Chain.place.Given as goal

abbrev pub invariant-loop-k : goal.invariant-loop-k
invariant-loop-k g l = l.at.ptr ≡ place_of l.self.links l.k
