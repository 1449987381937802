use Rattle.std.proofs.Common.{drop, refl}
use Rattle.packet_flow.proofs.Spelled.{first_item}
use Rattle.packet_flow.proofs.run.Run.number.Goals as goal

pub returns : goal.returns
returns c =
    let run = c.args.self.now in
    (c.index.result.now, drop 1 run.marks.items, first_item run.marks.items c.index.result.now run.some c.index.ensures, refl)
