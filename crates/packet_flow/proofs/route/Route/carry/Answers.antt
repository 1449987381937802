use Rattle.std.proofs.Common.{◌++◌, map, refl}
use Rattle.event_adapter.specs.Source.{entry_in}
use Rattle.packet_plan.specs.Asked.{sessions_of}
use Rattle.packet_flow.specs.declared.route.Route.{Route}
use Rattle.packet_flow.specs.Routes.{back_in, on_way}
use Rattle.packet_flow.proofs.Bags.{stand_moved}
use Rattle.packet_flow.proofs.RouteRuns.{moved_too, stand_settled, way_fewer}
use Rattle.packet_flow.proofs.route.Route.carry.Goals as goal

pub settle_sent-requires-clause-answers : goal.settle_sent-requires-clause-answers
settle_sent-requires-clause-answers g c = let h = c.requires.carries in (c.run-moved.ensures (sessions_of c.args.plan.now) h.0 h.1 h.2).answers

pub settle_sent-requires-clause-stand : goal.settle_sent-requires-clause-stand
settle_sent-requires-clause-stand g c =
    let h = c.requires.carries in
    let mid = c.run-moved.new.self in
    let b = c.requires.stand in (
      b.0,
      on_way g.D.Driver mid,
      stand_moved c.args.plan.now b.0 c.args.slots.now (on_way g.D.Driver c.args.self.now) (map entry_in (back_in mid) ++ on_way g.D.Driver mid)
          (c.run-moved.ensures (sessions_of c.args.plan.now) h.0 h.1 h.2).same b.1,
    )

pub returns-clause-moves : goal.returns-clause-moves
returns-clause-moves g c first stalled carries =
    let mid = c.run-moved.new.self in
    let new : Route g.row.D.Denot = record { adapter = mid.adapter; port = c.settle_sent.new.port } in
    let sessions = sessions_of c.args.plan.now in
    moved_too g.D.Driver sessions mid new refl c.settle_sent.ensures.inbox first stalled c.args.self.now c.run-moved.result c.settle_sent.ensures.cap c.settle_sent.ensures.limits
    (c.run-moved.ensures sessions first stalled carries).moves

pub returns-clause-stand : goal.returns-clause-stand
returns-clause-stand g c ps b =
    let h = c.requires.carries in
    let mid = c.run-moved.new.self in
    let new : Route g.row.D.Denot = record { adapter = mid.adapter; port = c.settle_sent.new.port } in
    let sessions = sessions_of c.args.plan.now in
    stand_settled g.D.Driver sessions mid new refl c.settle_sent.ensures.inbox c.args.plan.now ps c.args.slots.now c.settle_sent.new.slots (on_way g.D.Driver c.args.self.now)
    (c.run-moved.ensures sessions h.0 h.1 h.2).same c.settle_sent.ensures.stand b

pub returns-clause-fewer : goal.returns-clause-fewer
returns-clause-fewer g c =
    let h = c.requires.carries in
    let mid = c.run-moved.new.self in
    let new : Route g.row.D.Denot = record { adapter = mid.adapter; port = c.settle_sent.new.port } in
    let sessions = sessions_of c.args.plan.now in
    way_fewer g.D.Driver sessions mid new refl c.settle_sent.ensures.inbox (on_way g.D.Driver c.args.self.now) (c.run-moved.ensures sessions h.0 h.1 h.2).same
