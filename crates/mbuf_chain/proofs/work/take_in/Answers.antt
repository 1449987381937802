use Rattle.std.proofs.Common.{rules, ◌≡◌, ℕ, ◌+◌, ◌*◌, ◌/◌, ◌%◌, ◌≤◌, List, length, take, drop, sym, ap, ◌∙◌, arith}
use Rattle.std.proofs.Math.Nat.{div-mul-le_self, mul-mod_left}
use Rattle.seg_list.specs.Buffer.{Buffer}
use Rattle.mbuf_chain.specs.Chain.{packet_of}
use Rattle.mbuf_chain.specs.Cursors.{At}
use Rattle.mbuf_chain.specs.Piece.{piece_len}
use Rattle.mbuf_chain.proofs.Pieces.{length-piece_laid, piece_laid-packet, piece_len-laid, piece_len-less}
use Rattle.mbuf_chain.proofs.work.take_in.Goals as goal

-- whole units of a piece
units_of : (m u unit : ℕ) → u ≡ unit → m / u * u % unit ≡ 0
units_of m u unit is = ap (λ k. m / u * u % k) (sym is) ∙ mul-mod_left (m / u) u

-- they lie in one segment, as the piece does
one : (chain : List Buffer) (at left m u : ℕ) → m ≡ piece_len at left chain → piece_len at (m / u * u) chain ≡ m / u * u
one chain at left m u is = piece_len-less chain at left (m / u * u) (omega (arith, is, div-mul-le_self m u))

pub feed-requires : goal.feed-requires
feed-requires g c =
    let at = c.args.cursor.now in
    let m = c.piece_len.result in
    let u = c.unit-unit.result in
    ap (λ k. k % g.W.Work.unit) (c.piece_mut-piece.ensures.size ∙ one at.chain at.at c.args.left m u c.piece_len.ensures.value) ∙ units_of m u g.W.Work.unit c.unit-unit.ensures

pub pass-requires-clause-within : goal.pass-requires-clause-within
pass-requires-clause-within g c =
    let at = c.args.cursor.now in
    omega (arith, c.requires.within, c.piece_len.ensures.range, div-mul-le_self c.piece_len.result c.unit-unit.result, length-piece_laid at.chain at.at c.feed.new.piece)

pub pass-requires-clause-one : goal.pass-requires-clause-one
pass-requires-clause-one g c =
    let at = c.args.cursor.now in
    let m = c.piece_len.result in
    let u = c.unit-unit.result in
    piece_len-laid at.chain at.at at.at (m / u * u) c.feed.new.piece ∙ one at.chain at.at c.args.left m u c.piece_len.ensures.value

pub returns-clause-count : goal.returns-clause-count
returns-clause-count g c =
    let u = c.unit-unit.result in
    let m = c.piece_len.result in
    (omega arith, omega (arith, div-mul-le_self m u, c.piece_len.ensures.range), units_of m u g.W.Work.unit c.unit-unit.ensures)

pub returns-clause-works : goal.returns-clause-works
returns-clause-works g c =
    let at = c.args.cursor.now in
    let m = c.piece_len.result in
    let u = c.unit-unit.result in
    let n = m / u * u in
    let all = packet_of at.chain in
    let w = c.feed.new.piece in
    let is_one = one at.chain at.at c.args.left m u c.piece_len.ensures.value in
    let long : length w ≡ n = (search rules) ∙ c.piece_mut-piece.ensures.size ∙ is_one in
    let is : c.piece_mut-piece.result.now ≡ take n (drop at.at all) = c.piece_mut-piece.ensures.value ∙ ap (λ k. take k (drop at.at all)) is_one in
    let inside : at.at + n ≤ length all = omega (arith, c.requires.within, c.piece_len.ensures.range, div-mul-le_self m u) in
    record {
      out = w;
      size = long;
      written = c.pass.ensures
          ∙ ap (λ (chain : List Buffer). let a : At = record { chain = chain; at = at.at + n } in a)
          (piece_laid-packet at.chain at.at w (omega (arith, inside)) (omega (arith, long, ap (λ k. piece_len at.at k at.chain) long, is_one)));
      works = λ begun text h. rw is at (c.feed.ensures begun text h);
    }
