use Rattle.std.proofs.Common.{◌≤◌, IfOk, IsTrue, subst, sym, refl, ◌∙◌, arith}
use Rattle.mbuf_chain.specs.Chain.{packet_of}
use Rattle.capture_io.specs.Capture.{view}
use Rattle.session_file.specs.declared.plan.Plan.{Plan}
use Rattle.packet_plan.specs.declared.session_way.SessionWay.{SessionWay}
use Rattle.packet_plan.specs.declared.written.Fate.TheVariants.{Passed}
use Rattle.packet_plan.specs.declared.written.Work.TheVariants.{Ready}
use Rattle.packet_plan.specs.declared.written.Written.{Written}
use Rattle.packet_plan.specs.Work.{IsBegun}
use Rattle.packet_plan.proofs.Begun.{found, told, passes, begun_is}
use Rattle.packet_plan.proofs.ready.ReadyPlan.begin.Goals as goal

pub index-requires : goal.index-requires
index-requires g c =
    let plan = c.self.inside.plan in
    let packet = packet_of c.args.rec.packet in
    let is = told plan packet c.items.result.now _ _ c.items.ensures c.choose-chosen.ensures.choice c.choose-chosen.ensures.flow in
    let at = found plan c.self.inside.ways.items packet c.in-Use.session c.in-Use.skip c.self.invariant (is.0 ∙ c.in-Use.is) in
    let within = at.1.within in
    omega (arith, c.self.inside.ways.ok)

pub begun-requires-clause-digest : goal.begun-requires-clause-digest
begun-requires-clause-digest g c =
    let plan = c.self.inside.plan in
    let packet = packet_of c.args.rec.packet in
    let is = told plan packet c.items.result.now _ _ c.items.ensures c.choose-chosen.ensures.choice c.choose-chosen.ensures.flow in
    let at = found plan c.self.inside.ways.items packet c.in-Use.session c.in-Use.skip c.self.invariant (is.0 ∙ c.in-Use.is) in
    subst (λ (w : SessionWay). w.way.digest_len ≤ 64) (sym (at.1.ready c.index.result.now c.index.ensures)) at.1.digest

pub begun-requires-clause-aad : goal.begun-requires-clause-aad
begun-requires-clause-aad g c =
    let plan = c.self.inside.plan in
    let packet = packet_of c.args.rec.packet in
    let is = told plan packet c.items.result.now _ _ c.items.ensures c.choose-chosen.ensures.choice c.choose-chosen.ensures.flow in
    let at = found plan c.self.inside.ways.items packet c.in-Use.session c.in-Use.skip c.self.invariant (is.0 ∙ c.in-Use.is) in
    subst (λ (w : SessionWay). IsTrue w.way.aead → c.in-Use.skip ≤ 255) (sym (at.1.ready c.index.result.now c.index.ensures)) at.1.aad

pub returns-in-Pass : goal.returns-in-Pass
returns-in-Pass g c =
    let plan = c.self.inside.plan in
    let packet = packet_of c.args.rec.packet in
    let is = told plan packet c.items.result.now _ _ c.items.ensures c.choose-chosen.ensures.choice c.choose-chosen.ensures.flow in
    let w : Written = record { rec = c.args.rec; fate = Passed } in
    subst (λ (p : Plan). IsBegun p c.args.n c.args.pos (view c.args.rec) (Ready w)) c.self.view_is (passes plan c.args.n c.args.pos (view c.args.rec) w (is.0 ∙ c.in-Pass.is) refl)

pub returns-in-Use : goal.returns-in-Use
returns-in-Use g c =
    let plan = c.self.inside.plan in
    let packet = packet_of c.args.rec.packet in
    let is = told plan packet c.items.result.now _ _ c.items.ensures c.choose-chosen.ensures.choice c.choose-chosen.ensures.flow in
    let at = found plan c.self.inside.ways.items packet c.in-Use.session c.in-Use.skip c.self.invariant (is.0 ∙ c.in-Use.is) in
    subst (λ (p : Plan). IfOk c.begun.result (IsBegun p c.args.n c.args.pos (view c.args.rec))) c.self.view_is
    (begun_is plan (view c.args.rec) at.0 _ c.index.result.now c.begun.result (record { choice = is.0 ∙ c.in-Use.is; flow = is.1; got = at.1.got })
    (at.1.ready c.index.result.now c.index.ensures) c.begun.ensures)
