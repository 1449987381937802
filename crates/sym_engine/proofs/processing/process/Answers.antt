use Rattle.std.proofs.Common.{refl, ap, ◌∙◌}
use Rattle.crypto_model.specs.declared.plain.Status.{Status}
use Rattle.crypto_model.specs.Process.{processed}
use Rattle.crypto_op.specs.Op.{input_of, present}
use Rattle.crypto_op.specs.declared.op.Op.{Op}
use Rattle.sym_engine.specs.Working.{with_answer}
use Rattle.sym_engine.proofs.Answered.{done_by}
use Rattle.sym_engine.proofs.processing.process.Goals as goal

pub returns-clause-done : goal.returns-clause-done
returns-clause-done g c =
    let old = c.args.op.now in
    let a = processed c.args.table.now (input_of (present old)) in
    done_by c.args.table.now old c.set_status.new.self a c.requires refl
    (c.set_status.ensures ∙ ap (λ (op : Op g.row.C.Denot). record op { status = c.answer-status.result }) c.answer-status.ensures.answer
    ∙ ap (λ (s : Status). record (with_answer old a) { status = s }) c.answer-status.ensures.status)
