use Rattle.std.proofs.Common.{◌≡◌, ℕ, List, drop, ap, sym, subst, arith}
use Rattle.std.proofs.Common.{Some}
use Rattle.capture_io.specs.Capture.{IsReading}
use Rattle.capture_io.specs.Hashed.{hashed}
use Rattle.capcrypt.specs.Devices.{devices_now}
use Rattle.capcrypt.specs.Ran.{Job}
use Rattle.capcrypt.specs.Start.{Begins, settings_of}
use Rattle.capcrypt.proofs.place.work_generated.Goals as goal

pub returns-clause-job : goal.returns-clause-job
returns-clause-job g c reading reads =
    let now = devices_now g.D.Device.limit g.D.Driver.sessions g.D.Driver.held g.D.Driver.room g.D.Driver.stalls g.D.Driver.stats g.D.Driver.log in
    let back = c.process_capture-devs.result.1.items in
    let written = hashed c.process_capture-devs.new.out in
    let job = c.process_capture-devs.ensures.job tt tt reading (subst (λ (l : List ℕ). IsReading l reading) (sym c.new-source.ensures) reads) in (
      written,
      ap Some c.finish.ensures,
      subst (λ (old : List ℕ). Job (Begins (settings_of c.args.task.now)) reading c.process_capture-devs.result.0 old written (λ n. drop n back ≡ drop n c.args.devs.items) (now c.args.devs.items) (now back))
          c.new-sink.ensures job,
    )

pub returns-clause-never : goal.returns-clause-never
returns-clause-never g c = (
  λ fault. omega (arith, c.process_capture-devs.ensures.read_cause fault),
  λ fault. omega (arith, c.process_capture-devs.ensures.write_cause fault),
)
