use Rattle.std.proofs.Common.{◌≡◌, List, subst, sym, ap, ◌∙◌}
use Rattle.crypto_model.specs.Chain.{laid_at}
use Rattle.crypto_model.proofs.Laid.{length-laid_at}
use Rattle.seg_list.specs.Buffer.{Buffer}
use Rattle.mbuf_chain.specs.Chain.{packet_of, with_packet}
use Rattle.mbuf_chain.specs.Cursors.{At, rewritten}
use Rattle.mbuf_chain.specs.Kept.{IsKept}
use Rattle.mbuf_chain.proofs.Kept.{kept_written}
use Rattle.mbuf_chain.proofs.mbuf.Mbuf.write_at.Goals as goal

pub invariant_of-self : goal.invariant_of-self
invariant_of-self c =
    let segs = c.self.inside.segs in
    let bytes = c.args.bytes.now in
    let is : c.into_segs.result ≡ with_packet segs (laid_at c.args.off bytes (packet_of segs)) =
    c.into_segs.ensures ∙ ap (λ (a : At). a.chain) c.write.ensures ∙ ap (λ (a : At). (rewritten bytes a).chain) c.new-cursor.ensures in
    subst (λ (l : List Buffer). IsKept l c.self.inside.len) (sym is) (kept_written segs c.self.inside.len (laid_at c.args.off bytes (packet_of segs)) c.self.invariant (length-laid_at c.args.off bytes (packet_of segs)))
