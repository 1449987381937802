use Rattle.std.proofs.Common.{refl, subst, Option}
use Rattle.capture_io.specs.Capture.{IsReading}
use Rattle.command_words.specs.declared.generated.Gen.{Gen}
use Rattle.capcrypt.specs.Place.{OfHanded, capture_read}
use Rattle.capcrypt.proofs.Places.{generated_worked, handed_worked}
use Rattle.capcrypt.proofs.place.work.Goals as goal

pub returns-in-Some-clause-job : goal.returns-in-Some-clause-job
returns-in-Some-clause-job g c s_told k_told reading reads =
    let is = c.in-Some.is in
    generated_worked c.args.task.now.generated c.in-Some.made _ _ _ _ is
    (c.work_generated.ensures.job reading (subst (λ (m : Option Gen). IsReading (capture_read m (g.S.Source.left c.args.capture.now)) reading) is reads))

pub returns-in-None-clause-job : goal.returns-in-None-clause-job
returns-in-None-clause-job g c s_told k_told reading reads =
    let is = c.in-None.is in
    handed_worked c.args.task.now.generated _ _ _ _ _ is refl
    (c.process_capture-devs.ensures.job (subst (λ (m : Option Gen). OfHanded m g.S.Source.tells) is s_told) (subst (λ (m : Option Gen). OfHanded m g.K.Sink.tells) is k_told) reading
    (subst (λ (m : Option Gen). IsReading (capture_read m (g.S.Source.left c.args.capture.now)) reading) is reads))
