use Rattle.std.proofs.Common.{◌≡◌, ℕ, List, ◌++◌, ◌∙◌, ap}
use Rattle.std.proofs.lemmas.Result.{on_err_weaker}
use Rattle.mbuf_chain.specs.Chain.{packet_of}
use Rattle.capture_io.specs.Capture.{record_bytes, view}
use Rattle.capture_io.specs.Pieces.{AppendsPart}
use Rattle.capture_io.proofs.Framing.{on_err_from}
use Rattle.capture_io.proofs.Parts.{part_of_first, part_of_second}
use Rattle.capture_io.proofs.writing.write_record.Goals as goal

pub returns-in_err-write_all-clause-fault : goal.returns-in_err-write_all-clause-fault
returns-in_err-write_all-clause-fault g c told =
    let wrote = c.in_err-write_all.ensures.fault told in
    on_err_from _ (part_of_first wrote.0 (record_bytes c.args.header.now.big (view c.args.rec.now)) c.spelled_head.result (packet_of c.args.rec.now.packet) _ _ (c.spelled_head.ensures) wrote.1 wrote.2)

pub returns-clause-fault : goal.returns-clause-fault
returns-clause-fault g c told =
    let packet : packet_of c.segs.result.now ≡ packet_of c.args.rec.now.packet = ap packet_of c.segs.ensures in
    let whole : c.spelled_head.result ++ packet_of c.segs.result.now ≡ record_bytes c.args.header.now.big (view c.args.rec.now) = ap (λ (l : List ℕ). c.spelled_head.result ++ l) packet ∙ c.spelled_head.ensures in
    on_err_weaker c.write_segs.result (λ (wrote : AppendsPart (g.K.Sink.written c.write_all.new.sink) (g.K.Sink.written c.write_segs.new.sink) (packet_of c.segs.result.now)). part_of_second wrote.0 (record_bytes c.args.header.now.big (view c.args.rec.now)) c.spelled_head.result (packet_of c.segs.result.now) _ _ _ whole (c.in_ok-write_all.ensures.written told) wrote.1 wrote.2) (c.write_segs.ensures.fault told)
