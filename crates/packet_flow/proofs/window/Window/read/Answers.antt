use Rattle.std.proofs.Common.{◌++◌, sym, subst}
use Rattle.packet_flow.specs.Reads.{HasRead}
use Rattle.packet_flow.specs.Window.{Ahead}
use Rattle.packet_flow.proofs.window.Window.read.Goals as goal

pub returns-clause-read : goal.returns-clause-read
returns-clause-read g c told bytes given so =
    c.read_behind-stop.ensures.read told bytes given
    (subst (λ (w : Ahead). HasRead c.args.header.now.big bytes (given ++ w.waiting) w.place (g.S.Source.left c.args.src.now)) (sym c.self.view_is) so)
