use Rattle.std.proofs.Common.{◌≡◌, ℕ, ◌-◌, ◌<◌, ◌≤◌, List, length, slice_set, slice_index_or, ap, ◌∙◌, arith}
use Rattle.std.proofs.lemmas.List.{get_or_default, length-take-le}
use Rattle.seg_list.specs.Buffer.{Buffer, bytes_of, cut_at}
use Rattle.mbuf_chain.specs.Chain.{packet_of}
use Rattle.mbuf_chain.specs.Ends.{last_of, cut_back, no_buffer}
use Rattle.mbuf_chain.proofs.EndCuts.{cut_back-is}
use Rattle.mbuf_chain.proofs.EndPackets.{packet-cut_back}
use Rattle.mbuf_chain.proofs.Kept.{kept_cut}
use Rattle.mbuf_chain.proofs.mbuf.Mbuf.trim.Goals as goal

-- what is left of the segment, as it is made
set_is : (b x : Buffer) (off len n : ℕ) → x ≡ cut_at off (len - n) (bytes_of b) → off ≡ length b.before → len ≡ length b.body → n ≤ length b.body → x ≡ cut_back n b
set_is b x off len n set at size fits =
    set ∙ ap (λ k. cut_at k (len - n) (bytes_of b)) at ∙ ap (λ k. cut_at (length b.before) (k - n) (bytes_of b)) size ∙ cut_back-is n b fits

pub invariant_of-self-2 : goal.invariant_of-self-2
invariant_of-self-2 c =
    let b : Buffer = c.last_mut-seg.result.now in
    let segs : List Buffer = c.self.inside.segs in
    let n = c.args.n in
    let fits : n ≤ length b.body = omega (arith, c.len-len.ensures.value) in
    let new = set_is b c.set.new.self c.off-off.result c.len-len.result n c.set.ensures c.off-off.ensures.value c.len-len.ensures.value fits in
    kept_cut segs c.self.inside.len (length segs - 1) c.off-off.result (c.len-len.result - n) n b c.set.new.self c.self.invariant (omega (arith, c.self.invariant.some))
    c.last_mut-seg.ensures.value c.set.ensures (omega (arith, fits, ap (λ (x : Buffer). length x.body) new, length-take-le (length b.body - n) b.body (omega arith)))

pub returns-clause-cut : goal.returns-clause-cut
returns-clause-cut c =
    let b : Buffer = c.last_mut-seg.result.now in
    let n = c.args.n in
    let old : List Buffer = c.args.self.now in
    let some : 0 < length old = omega (arith, c.self.invariant.some, ap length c.self.view_is) in
    let same : b ≡ last_of old =
    c.last_mut-seg.ensures.value ∙ ap (λ (segs : List Buffer). slice_index_or segs (length segs - 1) b) c.self.view_is ∙ get_or_default old (length old - 1) b no_buffer (omega arith) in
    let new = set_is b c.set.new.self c.off-off.result c.len-len.result n c.set.ensures c.off-off.ensures.value c.len-len.ensures.value (omega (arith, c.len-len.ensures.value)) in
    ap (λ (segs : List Buffer). slice_set segs (length segs - 1) c.set.new.self) c.self.view_is
    ∙ ap (λ (x : Buffer). slice_set old (length old - 1) x) (new ∙ ap (λ (x : Buffer). cut_back n x) same)

pub returns-clause-packet : goal.returns-clause-packet
returns-clause-packet c =
    let b : Buffer = c.last_mut-seg.result.now in
    let old : List Buffer = c.args.self.now in
    let some : 0 < length old = omega (arith, c.self.invariant.some, ap length c.self.view_is) in
    let same : b ≡ last_of old =
    c.last_mut-seg.ensures.value ∙ ap (λ (segs : List Buffer). slice_index_or segs (length segs - 1) b) c.self.view_is ∙ get_or_default old (length old - 1) b no_buffer (omega arith) in
    ap packet_of (returns-clause-cut c) ∙ packet-cut_back c.args.n old some (omega (arith, c.len-len.ensures.value, ap (λ (x : Buffer). length x.body) same))
