use Rattle.std.proofs.Common.{◌≡◌, ◌++◌, ℕ, List, length, map, take, inl, inr, ap, subst, ◌∙◌, arith}
use Rattle.std.specs.Prelude.{string_bytes}
use Rattle.command_words.specs.Asked.{wanted}
use Rattle.capcrypt.specs.Devices.{device_now, operations_of}
use Rattle.capcrypt.specs.Place.{digest_of, generated_in}
use Rattle.capcrypt.specs.Ran.{AppendsFront}
use Rattle.capcrypt.specs.Report.{report_of}
use Rattle.capcrypt.proofs.Lists.{first_counts}
use Rattle.capcrypt.proofs.Places.{same_report}
use Rattle.capcrypt.proofs.top.run.Goals as goal
use Rattle.capcrypt.proofs.top.run.Goals.{in-Ok, in-Err}

pub returns-clause-ran : goal.returns-clause-ran
returns-clause-ran g c s_told t_told k_told e_told reading reads =
    let f = device_now g.D.Device.limit g.D.Driver.sessions g.D.Driver.held g.D.Driver.room g.D.Driver.stalls g.D.Driver.stats g.D.Driver.log in
    let made = generated_in (wanted (map string_bytes c.args.words.now) (length c.args.devs.items)) in
    let ran = c.run_unreported-worked.ensures in
    let o = c.run_unreported-worked.result.outcome in
    let digest = c.run_unreported-worked.result.digest in
    let back = c.run_unreported-worked.result.devs.items in
    let counts = c.operations_of-operations.result in
    let worked = ran.job s_told t_told k_told reading reads in
    let all : take (length back) counts ≡ map (λ d. (f d).enqueued) back = subst (λ (ds : List _). take (length ds) counts ≡ map (λ d. (f d).enqueued) ds) c.deref.ensures.value c.operations_of-operations.ensures in
    let counted = first_counts f o.devices back counts (omega (arith, ran.few, ran.count)) all in
    let same = ap (λ (l : List ℕ). report_of o l digest) counted ∙ same_report o (operations_of o.devices (map f back)) digest (digest_of made worked.new) worked.told in
    let old = g.E.Sink.written c.args.report.now in
    let new = g.E.Sink.written c.write_report.new.report in
    record {
      outcome = o;
      old = worked.old;
      new = worked.new;
      place = worked.place;
      job = worked.did;
      reported = elim c.match-write_report.branch [
        | in-Ok w ↦ inl (w.status-is ∙ w.number-status.ensures, w.in-Ok.ensures.written e_told ∙ ap (λ (l : List ℕ). old ++ l) same)
        | in-Err w ↦ inr (w.status-is, w.in-Err.ensures.cause, subst (λ (l : List ℕ). AppendsFront old new l) same (w.in-Err.ensures.fault e_told))
      ];
    }
