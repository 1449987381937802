use Rattle.std.proofs.Common.{◌≡◌, length, take, arith, ◌∙◌, sym}
use Rattle.mbuf_chain.specs.Chain.{packet_of}
use Rattle.capture_io.proofs.Framing.{filled, record_limit, record_fits, packet_stops, two_parts}
use Rattle.std.proofs.lemmas.Result.{err_from_is_err_and}
use Rattle.capture_io.proofs.reading.read_record.Goals as goal

pub returns-in-Some-clause-stop : goal.returns-in-Some-clause-stop
returns-in-Some-clause-stop g c told =
    let len : length c.fill.new.buf ≡ 16 = omega arith in
    let n : c.in_ok-n.n ≡ 16 = omega (arith, c.in_ok-n.ensures.within) in
    record_limit c.args.header.now.big c.args.place.now c.fill.new.buf _ _ c.parse_head-head.result len (filled c.in_ok-n.n 16 c.fill.new.buf _ _ n len (c.in_ok-n.ensures.taken told)) c.parse_head-head.ensures c.in-Some.value c.in-Some.ensures

pub returns-in_err-packet-clause-stop : goal.returns-in_err-packet-clause-stop
returns-in_err-packet-clause-stop g c told =
    let p = err_from_is_err_and c.from_residual-in_err-packet.result c.from_residual-in_err-packet.ensures.1 in
    let len : length c.fill.new.buf ≡ 16 = omega arith in
    let n : c.in_ok-n.n ≡ 16 = omega (arith, c.in_ok-n.ensures.within) in
    rw (p.1, p.2) (packet_stops c.args.header.now.big c.args.place.now c.fill.new.buf _ _ c.parse_head-head.result len (filled c.in_ok-n.n 16 c.fill.new.buf _ _ n len (c.in_ok-n.ensures.taken told)) c.parse_head-head.ensures (sym c.in_default.is ∙ c.passed_limit.ensures) c.in_err-packet.field-0.0 (c.in_err-packet.ensures.stop told))

pub returns-in_err-packet-clause-taken : goal.returns-in_err-packet-clause-taken
returns-in_err-packet-clause-taken g c told =
    let second = c.read_packet.ensures.taken told in
    two_parts (take c.in_ok-n.n c.fill.new.buf) second.0 _ _ _ (c.in_ok-n.ensures.taken told) second.1

pub returns-clause-found : goal.returns-clause-found
returns-clause-found g c told =
    let len : length c.fill.new.buf ≡ 16 = omega arith in
    let n : c.in_ok-n.n ≡ 16 = omega (arith, c.in_ok-n.ensures.within) in
    record_fits c.args.header.now.big c.args.place.now c.fill.new.buf _ _ c.parse_head-head.result len (filled c.in_ok-n.n 16 c.fill.new.buf _ _ n len (c.in_ok-n.ensures.taken told)) c.parse_head-head.ensures (packet_of c.in_ok-packet.packet) _ (sym c.in_default.is ∙ c.passed_limit.ensures) c.in_ok-packet.ensures.length (c.in_ok-packet.ensures.found told)

pub returns-clause-taken : goal.returns-clause-taken
returns-clause-taken g c told =
    let second = c.read_packet.ensures.taken told in
    two_parts (take c.in_ok-n.n c.fill.new.buf) second.0 _ _ _ (c.in_ok-n.ensures.taken told) second.1
