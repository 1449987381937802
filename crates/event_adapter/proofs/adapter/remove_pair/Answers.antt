use Rattle.event_adapter.proofs.Deal.{distinct_removed}
use Rattle.event_adapter.proofs.adapter.remove_pair.Goals as goal

pub returns-clause-distinct : goal.returns-clause-distinct
returns-clause-distinct g c = distinct_removed c.args.pairs.now.items c.remove.new.self.items c.args.k c.remove.ensures.items c.requires.distinct
