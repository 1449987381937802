use Rattle.std_collections.proofs.IterRuns.{shows_in_order}
use Rattle.std.specs.Map.Iter.{deref}
use Rattle.seg_list.proofs.list.SegList.iter.Goals as goal

pub returns-in-Some-clause-runs : goal.returns-in-Some-clause-runs
returns-in-Some-clause-runs c = shows_in_order deref

pub returns-in-None-clause-runs : goal.returns-in-None-clause-runs
returns-in-None-clause-runs c = shows_in_order deref
