use Rattle.std.specs.List.{All}
use Rattle.std.proofs.lemmas.List.Elements.{All-tail}
use Rattle.std.proofs.Common.{◌∷◌}
use Rattle.crypto_op.specs.Op.{IsFresh}
use Rattle.sched_bench.proofs.renew_in_place.Goals as goal

pub add-requires-clause-burst : goal.add-requires-clause-burst
add-requires-clause-burst c =
    let fresh : All IsFresh (c.in-Some.op ∷ c.pop.new.self.ops) = rw c.in-Some.ensures.ops at c.loop-i.invariant in
    All-tail IsFresh c.in-Some.op c.pop.new.self.ops fresh
