use Rattle.std.proofs.lemmas.List.Elements.{All-head, All-tail}
use Rattle.mbuf_chain.specs.Emptied.{IsEmptied}
use Rattle.mbuf_pool.proofs.pool.Pool.take.Goals as goal

pub pop_as-requires-clause-rule : goal.pop_as-requires-clause-rule
pop_as-requires-clause-rule g c = ((λ x items views all at. (tt, All-tail IsEmptied x items all, All-head IsEmptied x items all)), λ items views all at. tt)
