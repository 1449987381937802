use Rattle.std.proofs.Common.{◌≡◌, ◌+◌, ◌-◌, ◌++◌, List, length, take, drop, sym, ap, subst, ◌∙◌, arith}
use Rattle.std.proofs.lemmas.List.{length-take-le}
use Rattle.std.proofs.Math.Seq.{take-add}
use Rattle.seg_list.specs.Buffer.{Buffer}
use Rattle.mbuf_chain.specs.Cursors.{At}
use Rattle.mbuf_chain.specs.Piece.{piece_laid, piece_len}
use Rattle.mbuf_chain.proofs.Pieces.{piece_len-laid, piece_len-own, length-piece_laid}
use Rattle.mbuf_chain.proofs.Walks.{Walked, walked-begin, walked-length, walked-on}
use Rattle.mbuf_chain.proofs.cursor.Cursor.write.Goals as goal

pub loop-done-init : goal.loop-done-init
loop-done-init c = record { walked = walked-begin c.args.self.now.chain c.args.self.now.at (omega (arith, c.requires)); at = omega arith; within = omega arith }

pub piece_mut-piece-requires-clause-within : goal.piece_mut-piece-requires-clause-within
piece_mut-piece-requires-clause-within c =
    let i = c.loop-done.invariant in
    omega (arith, i.at, i.within, c.requires, walked-length c.args.self.now.chain c.args.self.now.at _ c.loop-done.self.chain i.walked)

pub pass-requires-clause-within : goal.pass-requires-clause-within
pass-requires-clause-within c =
    let i = c.loop-done.invariant in
    let now = c.loop-done.self in
    omega (
      arith,
      i.at,
      i.within,
      c.requires,
      c.piece_mut-piece.ensures.range,
      walked-length c.args.self.now.chain c.args.self.now.at _ now.chain i.walked,
      length-piece_laid now.chain now.at c.copy_from_slice.new.self,
    )

pub pass-requires-clause-one : goal.pass-requires-clause-one
pass-requires-clause-one c =
    let now = c.loop-done.self in
    let n = length c.piece_mut-piece.result.now in
    piece_len-laid now.chain now.at now.at n c.copy_from_slice.new.self
    ∙ piece_len-own now.chain now.at (length c.args.bytes.now - c.loop-done.done) n c.piece_mut-piece.ensures.size

pub loop-done-preserved : goal.loop-done-preserved
loop-done-preserved c =
    let i = c.loop-done.invariant in
    let c0 = c.args.self.now.chain in
    let off = c.args.self.now.at in
    let now = c.loop-done.self in
    let xs = c.args.bytes.now in
    let done = c.loop-done.done in
    let w = c.copy_from_slice.new.self in
    let n = length c.piece_mut-piece.result.now in
    let size : length w ≡ piece_len (off + done) (length xs - done) now.chain =
    c.copy_from_slice.ensures.len ∙ c.piece_mut-piece.ensures.size ∙ ap (λ k. piece_len k (length xs - done) now.chain) i.at in
    let text = take-add done n xs ∙ ap (λ ys. take done xs ++ ys) (ap (λ k. take k (drop done xs)) (omega arith) ∙ sym c.copy_from_slice.ensures.after) in
    let walked = walked-on c0 off (length xs - done) done (take done xs) w (take (done + n) xs) now.chain i.walked (length-take-le done xs i.within) (omega (arith, c.requires)) size text in
    let chain : c.pass.new.self.chain ≡ piece_laid (off + done) now.chain w = ap (λ (a : At). a.chain) c.pass.ensures ∙ ap (λ k. piece_laid k now.chain w) i.at in
    record {
      walked = subst (λ (l : List Buffer). Walked c0 off (take (done + n) xs) l) (sym chain) walked;
      at = ap (λ (a : At). a.at) c.pass.ensures ∙ omega (arith, i.at);
      within = omega arith;
    }
