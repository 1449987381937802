use Rattle.packet_flow.specs.declared.route.Route.{Route}
use Rattle.packet_flow.proofs.RouteRuns.{all_sent, has_run, ran_once}
use Rattle.packet_flow.proofs.route.Route.run.Goals as goal

pub returns : goal.returns
returns g c sessions first stalled carries =
    let old = c.args.self.now in
    let new : Route g.row.D.Denot = record { adapter = c.run_once-moved.new.self; port = c.run_once-moved.new.port } in
    let m = c.run_once-moved.result in
    let e = c.run_once-moved.ensures in
    let on = g.met.D.Driver.follows_on in
    has_run g.D.Driver on sessions first stalled old new m carries c.requires.taken (ran_once g.D.Driver on sessions first stalled old new m carries c.requires.taken e.told e.step)
    (all_sent g.D.Driver on sessions first stalled old new m carries c.requires.taken e.told) e.inbox e.sent e.spare e.mode e.moved c.requires.some e.bag
