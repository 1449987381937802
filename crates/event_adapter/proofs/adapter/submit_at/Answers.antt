use Rattle.std.proofs.Common.{refl}
use Rattle.event_adapter.proofs.Deal.{ids_set}
use Rattle.event_adapter.proofs.adapter.submit_at.Goals as goal

pub returns-clause-ids : goal.returns-clause-ids
returns-clause-ids g c = ids_set c.args.pairs.now.items c.args.k c.index_mut-pair.result.now c.submit.new.self c.index_mut-pair.ensures.value c.submit.ensures.step.id

pub returns-clause-pairs : goal.returns-clause-pairs
returns-clause-pairs g c = (c.index_mut-pair.result.now, c.submit.new.self, c.index_mut-pair.ensures.value, refl, c.submit.ensures.step)
