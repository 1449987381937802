use Rattle.std.proofs.Common.{◌≡◌, length, map, None, Some, true, false, refl, sym, ap, subst, ◌∙◌}
use Rattle.std.specs.Box.{box_value}
use Rattle.crypto_model.specs.declared.plain.Status.TheVariants.{AuthFailed, InvalidArgs}
use Rattle.crypto_model.specs.Process.{fits, crypted, bytes_in}
use Rattle.mbuf_chain.specs.Chain.{packet_of, shape_of}
use Rattle.mbuf_chain.proofs.Chains.{shape_of-with_packet}
use Rattle.crypto_op.specs.Op.{input_of, present}
use Rattle.crypto_op.specs.declared.op.Op.{Op}
use Rattle.crypto_op.specs.declared.spec.OpSpec.{OpSpec}
use Rattle.sym_session.specs.First.{VerifiesFirst}
use Rattle.sym_session.specs.Plain.{plain}
use Rattle.sym_engine.specs.Working.{input_for, work_of}
use Rattle.sym_engine.proofs.Answered.{unfit, worked_off, refused_with, done_with, fit_as, work_as}
use Rattle.sym_engine.proofs.Written.{written_laid}
use Rattle.sym_engine.proofs.processing.answer_under.Goals as goal

pub returns-then-not-all_fit : goal.returns-then-not-all_fit
returns-then-not-all_fit g c =
    let op = c.args.op.now in
    let session = c.args.session.now in
    let packet = packet_of op.chain in
    let long : c.len.result ≡ length packet = c.len.ensures.value ∙ ap (λ m. length (packet_of m)) c.chain.ensures in
    let bad : fits (input_of (present op)) session ≡ false =
    sym (fit_as c.steps-steps.result.now session c.spec.result.now op.spec packet c.all_fit.result c.steps-steps.ensures.transforms c.spec.ensures (c.all_fit.ensures packet long)) ∙ c.if-not-all_fit.true in
    let r = refused_with op op.chain _ InvalidArgs (unfit session (input_of (present op)) bad) refl in
    record { status = r.0; answer = r.1; shape = refl }

pub returns-in-Some-clause-shape : goal.returns-in-Some-clause-shape
returns-in-Some-clause-shape g c =
    let op = c.args.op.now in
    let step = c.in-Some.step.now in
    let after = c.cipher_work.new.op.chain in
    let text = crypted step.alg step.dir (box_value step.key) op.spec.iv (bytes_in op.spec.cipher (packet_of op.chain)) in
    let written = written_laid op.chain after op.spec.cipher.off text (ap (λ (o : Op g.row.C.Denot). o.chain) c.cipher_work.ensures) in
    ap shape_of written.1.0 ∙ shape_of-with_packet op.chain (packet_of after) written.1.1

pub all_work-requires-clause-fit : goal.all_work-requires-clause-fit
all_work-requires-clause-fit g c =
    let packet = packet_of c.args.op.now.chain in
    let long : c.len.result ≡ length packet = c.len.ensures.value ∙ ap (λ m. length (packet_of m)) c.chain.ensures in
    sym (c.all_fit.ensures packet long ∙ ap (λ (s : OpSpec). fits (input_for s packet) (map plain c.steps-steps.result.now)) c.spec.ensures) ∙ c.if-not-all_fit.false

pub all_work-requires-clause-first : goal.all_work-requires-clause-first
all_work-requires-clause-first g c = subst VerifiesFirst (sym c.steps-steps.ensures.transforms) c.steps-steps.ensures.first

pub returns-then-not-all_work : goal.returns-then-not-all_work
returns-then-not-all_work g c =
    let op = c.args.op.now in
    let session = c.args.session.now in
    let steps = c.steps-steps.result.now in
    let packet = packet_of op.chain in
    let long : c.len.result ≡ length packet = c.len.ensures.value ∙ ap (λ m. length (packet_of m)) c.chain.ensures in
    let good : fits (input_of (present op)) session ≡ true =
    sym (fit_as steps session c.spec.result.now op.spec packet c.all_fit.result c.steps-steps.ensures.transforms c.spec.ensures (c.all_fit.ensures packet long)) ∙ c.if-not-all_fit.false in
    let does = c.if-not-all_work.ensures in
    let works = work_as steps session c.spec-2.result.now op.spec op.chain None c.steps-steps.ensures.transforms c.spec-2.ensures (does.works packet) in
    let r = refused_with op c.all_work.new.op.chain _ AuthFailed (worked_off session (input_of (present op)) None good works) (does.unless refl) in
    record { status = r.0; answer = does.kept ∙ r.1; shape = ap shape_of (does.unless refl) }

pub returns : goal.returns
returns g c =
    let op = c.args.op.now in
    let session = c.args.session.now in
    let steps = c.steps-steps.result.now in
    let packet = packet_of op.chain in
    let after = c.all_work.new.op.chain in
    let digest = c.all_work.new.digest in
    let long : c.len.result ≡ length packet = c.len.ensures.value ∙ ap (λ m. length (packet_of m)) c.chain.ensures in
    let good : fits (input_of (present op)) session ≡ true =
    sym (fit_as steps session c.spec.result.now op.spec packet c.all_fit.result c.steps-steps.ensures.transforms c.spec.ensures (c.all_fit.ensures packet long)) ∙ c.if-not-all_fit.false in
    let does = c.if-not-all_work.ensures in
    let works = work_as steps session c.spec-2.result.now op.spec op.chain (Some (work_of after digest)) c.steps-steps.ensures.transforms c.spec-2.ensures (does.works packet) in
    let r = done_with op after digest _ (worked_off session (input_of (present op)) (Some (work_of after digest)) good works) does.written.0 in
    record {
      status = r.0;
      answer = c.set_digest.ensures ∙ ap (λ (o : Op g.row.C.Denot). record o { spec = record o.spec { digest = digest } }) does.kept ∙ r.1;
      shape = ap (λ (o : Op g.row.C.Denot). shape_of o.chain) c.set_digest.ensures ∙ ap shape_of does.written.0 ∙ shape_of-with_packet op.chain (packet_of after) does.written.1;
    }
