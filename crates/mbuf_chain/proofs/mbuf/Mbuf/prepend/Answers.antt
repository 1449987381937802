use Rattle.std.proofs.Common.{◌≡◌, ℕ, ◌+◌, ◌-◌, ◌<◌, ◌≤◌, List, length, drop, replicate, slice_set, slice_index_or, ap, ◌∙◌, arith}
use Rattle.std.proofs.lemmas.List.{get_or_default, length-take-le, length-drop}
use Rattle.seg_list.specs.Buffer.{Buffer, bytes_of, cut_at, relaid_at}
use Rattle.mbuf_chain.specs.Chain.{packet_of}
use Rattle.mbuf_chain.specs.Ends.{first_of, zeros_before, no_buffer}
use Rattle.mbuf_chain.proofs.EndCuts.{zeros_before-is, zeros_before-room}
use Rattle.mbuf_chain.proofs.EndPackets.{packet-zeros_before}
use Rattle.mbuf_chain.proofs.Kept.{kept_grown}
use Rattle.mbuf_chain.proofs.mbuf.Mbuf.prepend.Goals as goal

pub invariant_of-self-2 : goal.invariant_of-self-2
invariant_of-self-2 c =
    let b : Buffer = c.first_mut-seg.result.now in
    let segs : List Buffer = c.self.inside.segs in
    let n = c.args.n in
    let set : c.set.new.self ≡ cut_at (length b.before - n) (length b.body + n) (bytes_of b) =
    c.set.ensures ∙ ap (λ k. cut_at (k - n) (c.len-len.result + n) (bytes_of b)) c.off-off.ensures.value
    ∙ ap (λ k. cut_at (length b.before - n) (k + n) (bytes_of b)) c.len-len.ensures.value in
    kept_grown segs c.self.inside.len 0 (length b.before - n) (length b.body + n) n 0 b c.set.new.self c.zero.new.piece c.self.invariant
    c.self.invariant.some c.first_mut-seg.ensures.value set (ap (λ (x : Buffer). length x.body) set ∙ zeros_before-room n b (omega (arith, c.off-off.ensures.value)))

pub returns-clause-grown : goal.returns-clause-grown
returns-clause-grown c =
    let b : Buffer = c.first_mut-seg.result.now in
    let n = c.args.n in
    let old : List Buffer = c.args.self.now in
    let some : 0 < length old = omega (arith, c.self.invariant.some, ap length c.self.view_is) in
    let same : b ≡ first_of old = c.first_mut-seg.ensures.value ∙ ap (λ (segs : List Buffer). slice_index_or segs 0 b) c.self.view_is ∙ get_or_default old 0 b no_buffer some in
    let set : c.set.new.self ≡ cut_at (length b.before - n) (length b.body + n) (bytes_of b) =
    c.set.ensures ∙ ap (λ k. cut_at (k - n) (c.len-len.result + n) (bytes_of b)) c.off-off.ensures.value
    ∙ ap (λ k. cut_at (length b.before - n) (k + n) (bytes_of b)) c.len-len.ensures.value in
    let fits : n ≤ length b.before = omega (arith, c.off-off.ensures.value) in
    let long : length c.set.new.self.body ≡ length b.body + n = ap (λ (x : Buffer). length x.body) set ∙ zeros_before-room n b fits in
    let count : length c.part_mut.result.now ≡ n = ap length c.part_mut.ensures.value ∙ length-take-le n (drop 0 c.set.new.self.body) (omega (arith, length-drop 0 c.set.new.self.body)) in
    let zeros : c.zero.new.piece ≡ replicate n 0 = c.zero.ensures ∙ ap (λ k. replicate k 0) count in
    let new : relaid_at 0 c.set.new.self c.zero.new.piece ≡ zeros_before n b =
    ap (λ (x : Buffer). relaid_at 0 x c.zero.new.piece) set
    ∙ ap (λ (w : List ℕ). relaid_at 0 (cut_at (length b.before - n) (length b.body + n) (bytes_of b)) w) zeros ∙ zeros_before-is n b fits in
    ap (λ (segs : List Buffer). slice_set segs 0 (relaid_at 0 c.set.new.self c.zero.new.piece)) c.self.view_is
    ∙ ap (λ (x : Buffer). slice_set old 0 x) (new ∙ ap (λ (x : Buffer). zeros_before n x) same)

pub returns-clause-packet : goal.returns-clause-packet
returns-clause-packet c =
    ap packet_of (returns-clause-grown c) ∙ packet-zeros_before c.args.n c.args.self.now (omega (arith, c.self.invariant.some, ap length c.self.view_is))
