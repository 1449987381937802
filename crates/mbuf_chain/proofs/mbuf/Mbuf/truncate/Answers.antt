use Rattle.std.proofs.Common.{◌+◌, List, length, sym, ap, ◌∙◌, arith}
use Rattle.std.proofs.lemmas.List.{length-take, length-take-le}
use Rattle.seg_list.specs.Buffer.{Buffer}
use Rattle.mbuf_chain.specs.Chain.{packet_of}
use Rattle.mbuf_chain.specs.Ends.{cut_to}
use Rattle.mbuf_chain.proofs.EndPackets.{packet-cut_to}
use Rattle.mbuf_chain.proofs.Kept.{kept_first}
use Rattle.mbuf_chain.proofs.Splits.{cut_at_end}
use Rattle.mbuf_chain.proofs.mbuf.Mbuf.truncate.Goals as goal

pub returns-clause-cut : goal.returns-clause-cut
returns-clause-cut c =
    cut_at_end c.self.inside.segs c.truncate.new.self c.args.len c.end_of-before.result.0 c.end_of-before.result.1 c.off-off.result c.last_mut-seg.result.now c.set.new.self
    c.end_of-before.ensures c.truncate.ensures c.last_mut-seg.ensures.value c.off-off.ensures.value c.set.ensures
    ∙ ap (cut_to c.args.len) c.self.view_is

pub invariant_of-self : goal.invariant_of-self
invariant_of-self c =
    let segs : List Buffer = c.self.inside.segs in
    let n = c.args.len in
    let packet = ap packet_of (returns-clause-cut c) ∙ packet-cut_to n c.args.self.now c.requires in
    let size = ap length packet ∙ length-take-le n (packet_of c.args.self.now) c.requires in
    kept_first segs c.truncate.new.self n c.self.inside.len c.end_of-before.result.0 c.off-off.result c.end_of-before.result.1 c.last_mut-seg.result.now c.set.new.self
    c.self.invariant c.truncate.ensures (omega (arith, ap length c.truncate.ensures, length-take (c.end_of-before.result.0 + 1) segs, c.self.invariant.some))
    c.last_mut-seg.ensures.value c.set.ensures (sym size)

pub returns-clause-packet : goal.returns-clause-packet
returns-clause-packet c = ap packet_of (returns-clause-cut c) ∙ packet-cut_to c.args.len c.args.self.now c.requires
