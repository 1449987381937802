use Rattle.std.proofs.Common.{◌≡◌, ◌∙◌, ap, drop, refl}
use Rattle.capcrypt.specs.Start.{settings_of}
use Rattle.capcrypt.specs.declared.ending.Ending.{Ending}
use Rattle.packet_flow.specs.Counts.{counts_of}
use Rattle.std.proofs.Common.{[], false}
use Rattle.capcrypt.specs.Devices.{devices_now}
use Rattle.capcrypt.specs.Ran.{Job}
use Rattle.capcrypt.specs.Start.{Begins}
use Rattle.capture_io.specs.Capture.{Reading}
use Rattle.capcrypt.proofs.Jobs.{header_read, header_stopped}
use Rattle.capcrypt.proofs.work.process_capture.Goals as goal

pub returns-in-Err-clause-job : goal.returns-in-Err-clause-job
returns-in-Err-clause-job g c s_told k_told reading reads =
    header_stopped (settings_of c.args.task.now) c.in-Err.stop (g.S.Source.left c.args.capture.now) reading c.without_packets.result (g.K.Sink.written c.args.out.now) _ _ _
    (c.in-Err.ensures.stop s_told) reads (c.without_packets.ensures ∙ ap (λ (e : Ending). record { ending = e; counts = counts_of []; header = false; devices = 0 }) c.ending_of_stop.ensures) refl

pub returns-in-Ok-clause-job : goal.returns-in-Ok-clause-job
returns-in-Ok-clause-job g c s_told k_told reading reads =
    let now = devices_now g.D.Device.limit g.D.Driver.sessions g.D.Driver.held g.D.Driver.room g.D.Driver.stalls g.D.Driver.stats g.D.Driver.log in
    header_read (λ (r : Reading). Job (Begins (settings_of c.args.task.now)) r c.process_packets.result.0 (g.K.Sink.written c.args.out.now) (g.K.Sink.written c.process_packets.new.out)
    (λ n. drop n c.process_packets.result.1.items ≡ drop n c.args.devs.items) (now c.args.devs.items) (now c.process_packets.result.1.items))
    c.in-Ok.header (g.S.Source.left c.args.capture.now) (g.S.Source.left c.read_header.new.src) (c.in-Ok.ensures.found s_told) (c.process_packets.ensures.job s_told k_told) reading reads
