use Rattle.std.proofs.Common.{ℕ, List, length, subst, ap, ◌∙◌, arith}
use Rattle.crypto_model.specs.declared.plain.Status.{Status}
use Rattle.seg_list.specs.Buffer.{Buffer}
use Rattle.mbuf_chain.specs.Chain.{packet_of}
use Rattle.crypto_op.specs.declared.spec.OpSpec.{OpSpec}
use Rattle.session_file.specs.declared.plan.Plan.{Plan}
use Rattle.packet_plan.specs.Work.{kept_rec}
use Rattle.packet_plan.specs.Ready.{IsReady}
use Rattle.packet_plan.proofs.Finished.{returned, written_by}
use Rattle.packet_plan.proofs.ready.ReadyPlan.finish.Goals as goal

pub index-requires : goal.index-requires
index-requires c =
    let ready = subst (λ (p : Plan). IsReady p c.self.inside.ways.items) c.self.view_is c.self.invariant in
    let at = returned c.args.self.now c.self.inside.ways.items (kept_rec c.args.kept.now) c.args.op ready c.requires.done c.requires.asked in
    let within = at.0 in
    let id = ap (λ (s : OpSpec). s.session.0) c.spec.ensures in
    omega (arith, c.self.inside.ways.ok)

pub written-requires-clause-digest : goal.written-requires-clause-digest
written-requires-clause-digest c =
    let ready = subst (λ (p : Plan). IsReady p c.self.inside.ways.items) c.self.view_is c.self.invariant in
    let at = returned c.args.self.now c.self.inside.ways.items (kept_rec c.args.kept.now) c.args.op ready c.requires.done c.requires.asked in
    (at.1 c.index.result.now (rw c.spec.ensures at c.index.ensures)).digest

pub written-requires-clause-whole : goal.written-requires-clause-whole
written-requires-clause-whole c =
    let ready = subst (λ (p : Plan). IsReady p c.self.inside.ways.items) c.self.view_is c.self.invariant in
    let at = returned c.args.self.now c.self.inside.ways.items (kept_rec c.args.kept.now) c.args.op ready c.requires.done c.requires.asked in
    let whole = (at.1 c.index.result.now (rw c.spec.ensures at c.index.ensures)).whole in
    ap (λ (b : List Buffer). length (packet_of b)) c.into_parts-spec.ensures.chain ∙ rw c.args.kept.now.len_is whole

pub returns : goal.returns
returns c =
    let ready = subst (λ (p : Plan). IsReady p c.self.inside.ways.items) c.self.view_is c.self.invariant in
    let at = returned c.args.self.now c.self.inside.ways.items (kept_rec c.args.kept.now) c.args.op ready c.requires.done c.requires.asked in
    let way = c.index.result.now.way in
    let r = kept_rec c.args.kept.now in
    c.written.ensures
    ∙ ap (λ (n : ℕ). written_by r way n c.into_parts-spec.result.1 (packet_of c.into_parts-spec.result.2)) c.args.kept.now.len_is
    ∙ ap (λ (t : Status). written_by r way (length r.packet) t (packet_of c.into_parts-spec.result.2)) c.into_parts-spec.ensures.status
    ∙ ap (λ (b : List Buffer). written_by r way (length r.packet) c.args.op.status (packet_of b)) c.into_parts-spec.ensures.chain
    ∙ (at.1 c.index.result.now (rw c.spec.ensures at c.index.ensures)).written
