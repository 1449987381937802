use Rattle.std.proofs.Common.{◌≡◌, None, Some, refl, sym, ap, ◌∙◌, slice_get}
use Rattle.crypto_model.specs.declared.plain.Status.TheVariants.{InvalidSession}
use Rattle.crypto_model.specs.Process.{Answer}
use Rattle.crypto_op.specs.Op.{input_of, present}
use Rattle.crypto_op.specs.declared.spec.OpSpec.{OpSpec}
use Rattle.sym_engine.specs.Working.{with_answer}
use Rattle.sym_engine.proofs.Answered.{no_session, under, refused_with}
use Rattle.sym_engine.proofs.processing.answer.Goals as goal

pub returns-in-None : goal.returns-in-None
returns-in-None g c =
    let op = c.args.op.now in
    let none : slice_get c.args.table.now op.spec.session.0 ≡ None = sym (c.in-None.ensures ∙ ap (λ (s : OpSpec). slice_get c.args.table.now s.session.0) c.spec.ensures) in
    let r = refused_with op op.chain _ InvalidSession (no_session c.args.table.now (input_of (present op)) none) refl in
    record { status = r.0; answer = r.1; shape = refl }

pub returns-in-Some : goal.returns-in-Some
returns-in-Some g c =
    let op = c.args.op.now in
    let some : slice_get c.args.table.now op.spec.session.0 ≡ Some c.in-Some.session.now =
    sym (c.in-Some.ensures ∙ ap (λ (s : OpSpec). slice_get c.args.table.now s.session.0) c.spec.ensures) in
    let is = under c.args.table.now c.in-Some.session.now (input_of (present op)) some in
    record {
      status = c.answer_under.ensures.status ∙ ap (λ (a : Answer). a.status) (sym is);
      answer = c.answer_under.ensures.answer ∙ ap (with_answer op) (sym is);
      shape = c.answer_under.ensures.shape;
    }
