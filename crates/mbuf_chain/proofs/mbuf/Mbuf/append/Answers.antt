use Rattle.std.proofs.Common.{◌≡◌, ℕ, ◌+◌, ◌-◌, ◌<◌, ◌≤◌, List, length, drop, replicate, slice_set, slice_index_or, ap, ◌∙◌, arith}
use Rattle.std.proofs.lemmas.List.{get_or_default, length-take-le, length-drop}
use Rattle.seg_list.specs.Buffer.{Buffer, bytes_of, cut_at, relaid_at}
use Rattle.mbuf_chain.specs.Ends.{last_of, zeros_behind, no_buffer}
use Rattle.mbuf_chain.specs.Chain.{packet_of}
use Rattle.mbuf_chain.proofs.EndCuts.{zeros_behind-is, zeros_behind-room}
use Rattle.mbuf_chain.proofs.EndPackets.{packet-zeros_behind}
use Rattle.mbuf_chain.proofs.Kept.{kept_grown}
use Rattle.mbuf_chain.proofs.mbuf.Mbuf.append.Goals as goal

pub invariant_of-self-2 : goal.invariant_of-self-2
invariant_of-self-2 c =
    let b : Buffer = c.last_mut-seg.result.now in
    let segs : List Buffer = c.self.inside.segs in
    let n = c.args.n in
    let set : c.set.new.self ≡ cut_at (length b.before) (length b.body + n) (bytes_of b) =
    c.set.ensures ∙ ap (λ k. cut_at k (c.len-len.result + n) (bytes_of b)) c.off-off.ensures.value ∙ ap (λ k. cut_at (length b.before) (k + n) (bytes_of b)) c.len-len.ensures.value in
    let fits : n ≤ length b.after = omega (arith, c.len-len.ensures, c.off-off.ensures) in
    kept_grown segs c.self.inside.len (length segs - 1) (length b.before) (length b.body + n) n c.len-len.result b c.set.new.self c.zero.new.piece c.self.invariant
    (omega (arith, c.self.invariant.some)) c.last_mut-seg.ensures.value set (ap (λ (x : Buffer). length x.body) set ∙ zeros_behind-room n b fits)

pub returns-clause-grown : goal.returns-clause-grown
returns-clause-grown c =
    let b : Buffer = c.last_mut-seg.result.now in
    let n = c.args.n in
    let old : List Buffer = c.args.self.now in
    let i = length c.self.inside.segs - 1 in
    let some : 0 < length old = omega (arith, c.self.invariant.some, ap length c.self.view_is) in
    let at : i ≡ length old - 1 = ap (λ (segs : List Buffer). length segs - 1) c.self.view_is in
    let same : b ≡ last_of old = c.last_mut-seg.ensures.value ∙ ap (λ (segs : List Buffer). slice_index_or segs i b) c.self.view_is ∙ ap (λ k. slice_index_or old k b) at ∙ get_or_default old (length old - 1) b no_buffer (omega arith) in
    let set : c.set.new.self ≡ cut_at (length b.before) (length b.body + n) (bytes_of b) =
    c.set.ensures ∙ ap (λ k. cut_at k (c.len-len.result + n) (bytes_of b)) c.off-off.ensures.value ∙ ap (λ k. cut_at (length b.before) (k + n) (bytes_of b)) c.len-len.ensures.value in
    let fits : n ≤ length b.after = omega (arith, c.len-len.ensures, c.off-off.ensures) in
    let long : length c.set.new.self.body ≡ length b.body + n = ap (λ (x : Buffer). length x.body) set ∙ zeros_behind-room n b fits in
    let count : length c.part_mut.result.now ≡ n = ap length c.part_mut.ensures.value ∙ length-take-le n (drop c.len-len.result c.set.new.self.body) (omega (arith, c.len-len.ensures.value, length-drop c.len-len.result c.set.new.self.body)) in
    let zeros : c.zero.new.piece ≡ replicate n 0 = c.zero.ensures ∙ ap (λ k. replicate k 0) count in
    let new : relaid_at c.len-len.result c.set.new.self c.zero.new.piece ≡ zeros_behind n b =
    ap (λ k. relaid_at k c.set.new.self c.zero.new.piece) c.len-len.ensures.value ∙ ap (λ (x : Buffer). relaid_at (length b.body) x c.zero.new.piece) set
    ∙ ap (λ (w : List ℕ). relaid_at (length b.body) (cut_at (length b.before) (length b.body + n) (bytes_of b)) w) zeros ∙ zeros_behind-is n b fits in
    ap (λ (segs : List Buffer). slice_set segs i (relaid_at c.len-len.result c.set.new.self c.zero.new.piece)) c.self.view_is
    ∙ ap (λ k. slice_set old k (relaid_at c.len-len.result c.set.new.self c.zero.new.piece)) at ∙ ap (λ (x : Buffer). slice_set old (length old - 1) x) (new ∙ ap (λ (x : Buffer). zeros_behind n x) same)

pub returns-clause-packet : goal.returns-clause-packet
returns-clause-packet c =
    ap packet_of (returns-clause-grown c) ∙ packet-zeros_behind c.args.n c.args.self.now (omega (arith, c.self.invariant.some, ap length c.self.view_is))
