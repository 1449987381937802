use Rattle.std.proofs.Common.{◌≡◌, ℕ, List, [], length, drop, map, Err, Option, None, ap, sym, subst, refl, arith}
use Rattle.std.specs.Prelude.{string_bytes}
use Rattle.capture_io.specs.Capture.{IsReading}
use Rattle.command_words.specs.Asked.{wanted}
use Rattle.command_words.specs.declared.generated.Gen.{Gen}
use Rattle.capcrypt.specs.declared.ending.Outcome.{Outcome}
use Rattle.capcrypt.specs.Devices.{devices_now}
use Rattle.capcrypt.specs.Place.{HasWorked, IsGenerated, OfHanded, capture_read, generated_in}
use Rattle.capcrypt.specs.Ran.{IsDecided, Job}
use Rattle.capcrypt.specs.Start.{Begins, CanStart, Start, Stops, settings_of, started}
use Rattle.capcrypt.proofs.Jobs.{not_begun}
use Rattle.capcrypt.proofs.Places.{nothing_worked}
use Rattle.capcrypt.proofs.top.run_unreported.Goals as goal

pub returns-in-Err-clause-job : goal.returns-in-Err-clause-job
returns-in-Err-clause-job g c s_told t_told k_told reading reads =
    let words = map string_bytes c.args.words.now in
    let len : c.len.result ≡ length c.args.devs.items = omega (arith, c.len.ensures, c.args.devs.ok.0) in
    let text = g.T.Source.left c.args.sessions.now in
    let e = c.in-Err.ending in
    let stops = subst (λ (n : ℕ). OfHanded (generated_in (wanted words n)) g.T.Source.tells → IsDecided e → started words n text ≡ Stops e) len c.in-Err.ensures.stops t_told in
    nothing_worked (generated_in (wanted words (length c.args.devs.items))) (g.K.Sink.written c.args.out.now) c.without_packets.result None _
    (ap (λ (o : Outcome). o.header) c.without_packets.ensures)
    (λ old. not_begun e _ reading c.without_packets.result old _ _ _ stops (λ x. c.in-Err.ensures.never.1 (ap Err x)) c.without_packets.ensures refl)

pub returns-in-Ok-clause-job : goal.returns-in-Ok-clause-job
returns-in-Ok-clause-job g c s_told t_told k_told reading reads =
    let words = map string_bytes c.args.words.now in
    let len : c.len.result ≡ length c.args.devs.items = omega (arith, c.len.ensures, c.args.devs.ok.0) in
    let text = g.T.Source.left c.args.sessions.now in
    let task = c.in-Ok.task in
    let same = subst (λ (n : ℕ). task.generated ≡ generated_in (wanted words n)) len c.in-Ok.ensures.generated in
    let begins = subst (λ (n : ℕ). OfHanded (generated_in (wanted words n)) g.T.Source.tells → started words n text ≡ Begins (settings_of task)) len c.in-Ok.ensures.task t_told in
    let now = devices_now g.D.Device.limit g.D.Driver.sessions g.D.Driver.held g.D.Driver.room g.D.Driver.stalls g.D.Driver.stats g.D.Driver.log in
    let before = g.K.Sink.written c.args.out.now in
    let after = g.K.Sink.written c.work.new.out in
    let o = c.work.result.outcome in
    let back = c.work.result.devs.items in
    let devs = c.args.devs.items in
    let did = λ (s : Start) (old new : List ℕ). Job s reading o old new (λ n. drop n back ≡ drop n devs) (now devs) (now back) in
    subst (λ (made : Option Gen). OfHanded made g.S.Source.tells → OfHanded made g.K.Sink.tells → IsReading (capture_read made (g.S.Source.left c.args.capture.now)) reading
    → HasWorked made before after o c.work.result.digest (did (started words (length devs) text))) same
    (λ s k r. subst (λ (x : Start). HasWorked task.generated before after o c.work.result.digest (did x)) (sym begins) (c.work.ensures.job s k reading r)) s_told k_told reads

pub returns-in-Ok-clause-untouched : goal.returns-in-Ok-clause-untouched
returns-in-Ok-clause-untouched g c is =
    let words = map string_bytes c.args.words.now in
    let len : c.len.result ≡ length c.args.devs.items = omega (arith, c.len.ensures, c.args.devs.ok.0) in
    let same = subst (λ (n : ℕ). c.in-Ok.task.generated ≡ generated_in (wanted words n)) len c.in-Ok.ensures.generated in
    c.work.ensures.untouched (subst IsGenerated (sym same) is)

pub returns-in-Ok-clause-ended : goal.returns-in-Ok-clause-ended
returns-in-Ok-clause-ended g c s_told done =
    let words = map string_bytes c.args.words.now in
    let len : c.len.result ≡ length c.args.devs.items = omega (arith, c.len.ensures, c.args.devs.ok.0) in
    let same = subst (λ (n : ℕ). c.in-Ok.task.generated ≡ generated_in (wanted words n)) len c.in-Ok.ensures.generated in
    subst (λ (made : Option Gen). OfHanded made (g.S.Source.left c.work.new.capture ≡ [])) same (c.work.ensures.ended s_told done)

pub work-requires-clause-can : goal.work-requires-clause-can
work-requires-clause-can g c =
    let len : c.len.result ≡ length c.args.devs.items = omega (arith, c.len.ensures, c.args.devs.ok.0) in
    subst (λ (n : ℕ). CanStart c.in-Ok.task n) len (c.in-Ok.ensures.legal (omega (arith, len, c.requires.some)))
