use Rattle.std.proofs.Common.{refl}
use Rattle.event_adapter.proofs.Deal.{distinct_pushed}
use Rattle.event_adapter.proofs.adapter.push_pair.Goals as goal

pub returns-clause-distinct : goal.returns-clause-distinct
returns-clause-distinct g c = distinct_pushed c.args.pairs.now.items c.push.new.self.items _ c.args.id c.in-Ok.ensures.items refl c.requires.new c.requires.distinct
