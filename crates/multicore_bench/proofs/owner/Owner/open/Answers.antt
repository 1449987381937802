use Rattle.std.specs.Arc.{arc_value}
use Rattle.multicore_bench.proofs.Handed.{new_hands}
use Rattle.multicore_bench.proofs.owner.Owner.open.Goals as goal

pub returns : goal.returns
returns c =
    let qp = c.in_ok-qp.qp in
    record { hands = new_hands qp.desk.table 512 qp.book c.args.workers (arc_value c.args.sessions) c.in_ok-qp.hands.items c.in_ok-qp.ensures.new.for_sessions c.in_ok-qp.ensures.hands }
