use Rattle.std.proofs.Common.{◌≡◌, ℕ, ◌+◌, List, ◌++◌, length, take, drop, refl, sym, ap, subst, ◌∙◌, arith}
use Rattle.std.proofs.Math.Nat.{zero-mod}
use Rattle.std.proofs.Math.Seq.{take-add}
use Rattle.crypto_model.specs.Chain.{laid_at}
use Rattle.crypto_model.proofs.Laid.{length-laid_at}
use Rattle.seg_list.specs.Buffer.{Buffer}
use Rattle.mbuf_chain.specs.Chain.{packet_of, with_packet}
use Rattle.mbuf_chain.specs.Cursors.{At}
use Rattle.mbuf_chain.specs.Kept.{IsKept}
use Rattle.mbuf_chain.proofs.Chains.{packet_of-with_packet}
use Rattle.mbuf_chain.proofs.Kept.{kept_written}
use Rattle.mbuf_chain.proofs.WalksBy.{range_at, WalkedBy, by-begin, by-reads, by-written, by-end}
use Rattle.mbuf_chain.proofs.Units.{units_more, units_left}
use Rattle.mbuf_chain.proofs.mbuf.Mbuf.work_on.Goals as goal

more : (done n : ℕ) (xs r : List ℕ) → r ≡ take n (drop done xs) → take (done + n) xs ≡ take done xs ++ r
more done n xs r is = take-add done n xs ∙ ap (λ ys. take done xs ++ ys) (sym is)

pub loop-done-init : goal.loop-done-init
loop-done-init g c =
    let chain : c.new-cursor.result.chain ≡ c.self.inside.segs = ap (λ (a : At). a.chain) c.new-cursor.ensures in
    let same : c.new-cursor.result.chain ≡ c.args.self.now = chain ∙ c.self.view_is in
    record {
      within = omega arith;
      whole = zero-mod g.W.Work.unit;
      at = ap (λ (a : At). a.at) c.new-cursor.ensures ∙ omega arith;
      size = ap (λ (l : List Buffer). length (packet_of l)) same;
      kept = subst (λ (l : List Buffer). IsKept l c.self.inside.len) (sym chain) c.self.invariant;
      works = λ begun h.
          (subst (λ (l : List Buffer). WalkedBy (g.W.Work.made begun) c.args.self.now c.args.off c.args.len 0 l) (sym same) (by-begin (g.W.Work.made begun) c.args.self.now c.args.off c.args.len (g.met.W.Work.made_of_nothing begun) c.requires.within), h);
    }

pub take_in-done-requires-clause-whole : goal.take_in-done-requires-clause-whole
take_in-done-requires-clause-whole g c =
    units_left c.args.len c.loop-done.done g.W.Work.unit c.requires.whole c.loop-done.invariant.whole c.loop-done.invariant.within

pub loop-done-preserved : goal.loop-done-preserved
loop-done-preserved g c =
    let i = c.loop-done.invariant in
    let c0 = c.args.self.now in
    let done = c.loop-done.done in
    let n = c.take_in-done.result in
    let w = c.take_in-done.ensures.works in
    let count = c.take_in-done.ensures.count in
    let chain = c.loop-done.cursor.chain in
    let packet = packet_of chain in
    let off = c.args.off in
    let new : c.take_in-done.new.cursor.chain ≡ with_packet chain (laid_at (off + done) w.out packet) =
    ap (λ (a : At). a.chain) w.written ∙ ap (λ k. with_packet chain (laid_at k w.out packet)) i.at in
    let laid = length-laid_at (off + done) w.out packet in
    record {
      within = omega (arith, i.within, count);
      whole = units_more done n g.W.Work.unit i.whole count.2;
      at = ap (λ (a : At). a.at) w.written ∙ omega (arith, i.at);
      size = ap (λ x. length (packet_of x)) new ∙ ap length (packet_of-with_packet chain (laid_at (off + done) w.out packet) laid) ∙ laid ∙ i.size;
      kept = subst (λ (l : List Buffer). IsKept l c.self.inside.len) (sym new) (kept_written chain c.self.inside.len (laid_at (off + done) w.out packet) i.kept laid);
      works = λ begun h.
          let f = g.W.Work.made begun in
          let r = take n (drop (off + done) packet) in
          let walked = (i.works begun h).0 in
          let at = ap (λ k. take n (drop k packet)) i.at in
          let held = w.works begun (take done (range_at off c0)) ((i.works begun h).1) in (
            by-written f c0 off c.args.len done n r w.out chain c.take_in-done.new.cursor.chain walked refl count.1 w.size i.within
                (ap (λ ys. f (take done (range_at off c0) ++ ys)) (sym at) ∙ held.1) new,
            subst (λ ys. g.W.Work.holds begun c.take_in-done.new.work ys)
                (sym (more done n (range_at off c0) _ (by-reads f c0 off c.args.len done n _ chain walked at))) held.0,
          );
    }

pub returns : goal.returns
returns g c = λ begun h.
    let i = c.loop-done.invariant in
    let c0 = c.args.self.now in
    let all : c.loop-done.done ≡ c.args.len = omega (arith, i.within) in
    let held = i.works begun h in (
      subst (λ k. g.W.Work.holds begun c.loop-done.work (take k (range_at c.args.off c0))) all held.1,
      c.into_segs.ensures ∙ by-end (g.W.Work.made begun) c0 c.args.off c.args.len c.loop-done.done c.loop-done.cursor.chain held.0 (omega arith),
    )
