use Rattle.std.proofs.Common.{◌≡◌, ◌+◌, ◌-◌, ◌<◌, List, length, slice_set, slice_index_or, ap, ◌∙◌, arith}
use Rattle.std.proofs.lemmas.List.{get_or_default}
use Rattle.seg_list.specs.Buffer.{Buffer, bytes_of, cut_at}
use Rattle.mbuf_chain.specs.Ends.{first_of, cut_front, no_buffer}
use Rattle.mbuf_chain.specs.Chain.{packet_of}
use Rattle.mbuf_chain.proofs.EndCuts.{cut_front-is}
use Rattle.mbuf_chain.proofs.EndPackets.{packet-cut_front}
use Rattle.mbuf_chain.proofs.mbuf.Mbuf.adj.Goals as goal

pub returns-clause-cut : goal.returns-clause-cut
returns-clause-cut c =
    let b : Buffer = c.first_mut-seg.result.now in
    let old : List Buffer = c.args.self.now in
    let some : 0 < length old = omega (arith, c.self.invariant.some, ap length c.self.view_is) in
    let same : b ≡ first_of old = c.first_mut-seg.ensures.value ∙ ap (λ (segs : List Buffer). slice_index_or segs 0 b) c.self.view_is ∙ get_or_default old 0 b no_buffer some in
    let new : c.set.new.self ≡ cut_front c.args.n b =
    c.set.ensures ∙ ap (λ k. cut_at (k + c.args.n) (c.len-len.result - c.args.n) (bytes_of b)) c.off-off.ensures.value
    ∙ ap (λ k. cut_at (length b.before + c.args.n) (k - c.args.n) (bytes_of b)) c.len-len.ensures.value
    ∙ cut_front-is c.args.n b (omega (arith, c.len-len.ensures.value)) in
    ap (λ (segs : List Buffer). slice_set segs 0 c.set.new.self) c.self.view_is ∙ ap (λ (x : Buffer). slice_set old 0 x) (new ∙ ap (λ (x : Buffer). cut_front c.args.n x) same)

pub returns-clause-packet : goal.returns-clause-packet
returns-clause-packet c =
    let b : Buffer = c.first_mut-seg.result.now in
    let old : List Buffer = c.args.self.now in
    let some : 0 < length old = omega (arith, c.self.invariant.some, ap length c.self.view_is) in
    let same : b ≡ first_of old = c.first_mut-seg.ensures.value ∙ ap (λ (segs : List Buffer). slice_index_or segs 0 b) c.self.view_is ∙ get_or_default old 0 b no_buffer some in
    ap packet_of (returns-clause-cut c) ∙ packet-cut_front c.args.n old some (omega (arith, c.len-len.ensures.value, ap (λ (x : Buffer). length x.body) same))
