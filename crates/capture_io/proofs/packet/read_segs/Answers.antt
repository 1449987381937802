use Rattle.std.proofs.Common.{arith}
use Rattle.mbuf_chain.specs.Chain.{packet_of}
use Rattle.std.proofs.lemmas.Result.{err_from_is_err_and, IfErr-weaker}
use Rattle.capture_io.proofs.Framing.{two_parts}
use Rattle.capture_io.proofs.Segments.{full-length, stops_whole}
use Rattle.capture_io.proofs.packet.read_segs.Goals as goal

pub returns-in_err-push_seg-clause-stop : goal.returns-in_err-push_seg-clause-stop
returns-in_err-push_seg-clause-stop g c told =
    let p = err_from_is_err_and c.from_residual.result c.from_residual.ensures.1 in
    let long = full-length c.loop-left.segs c.loop-left.invariant.full in
    rw (p.1, p.2) (stops_whole 2048 c.args.len c.args.at (packet_of c.loop-left.segs) _ _ c.in_err-push_seg.field-0.0 (c.loop-left.invariant.found told) (omega arith) (c.in_err-push_seg.ensures.stop told))

pub returns-in_err-push_seg-clause-taken : goal.returns-in_err-push_seg-clause-taken
returns-in_err-push_seg-clause-taken g c told =
    let more = c.push_seg.ensures.taken told in
    two_parts (packet_of c.loop-left.segs) more.0 _ _ _ (c.loop-left.invariant.found told) more.1

pub returns-clause-stop : goal.returns-clause-stop
returns-clause-stop g c told =
    let long = full-length c.loop-left.segs c.loop-left.invariant.full in
    IfErr-weaker c.push_seg-2.result _ _ (λ e. stops_whole c.loop-left.left c.args.len c.args.at (packet_of c.loop-left.segs) _ _ e (c.loop-left.invariant.found told) (omega arith)) (c.push_seg-2.ensures.stop told)

pub returns-clause-taken : goal.returns-clause-taken
returns-clause-taken g c told =
    let more = c.push_seg-2.ensures.taken told in
    two_parts (packet_of c.loop-left.segs) more.0 _ _ _ (c.loop-left.invariant.found told) more.1
