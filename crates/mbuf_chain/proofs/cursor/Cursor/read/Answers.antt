use Rattle.std.proofs.Common.{◌+◌, ◌≤◌, List, length, take, drop, sym, ap, subst, ◌∙◌, arith, length-drop}
use Rattle.std.proofs.lemmas.List.{length-take-le}
use Rattle.seg_list.specs.Buffer.{Buffer}
use Rattle.mbuf_chain.specs.Chain.{packet_of}
use Rattle.mbuf_chain.specs.Cursors.{At}
use Rattle.mbuf_chain.specs.Pieces.{joined, pieces_of}
use Rattle.mbuf_chain.proofs.Spots.{joined_rest}
use Rattle.mbuf_chain.proofs.cursor.Cursor.read.Goals as goal

pub copy_out-requires : goal.copy_out-requires
copy_out-requires c =
    let w = c.self.inside.walk in
    let inside = c.self.inside.inside in
    let n = length c.args.out.now in
    let a = c.args.self.now in
    let fits = subst (λ (x : At). x.at + n ≤ length (packet_of x.chain)) (sym c.self.view_is) c.requires in
    let is = ap joined c.of.ensures ∙ ap (λ (s : List Buffer). joined (pieces_of inside n s)) c.rest.ensures.rest ∙ joined_rest w inside n fits
    ∙ ap (λ (x : At). take n (drop x.at (packet_of x.chain))) c.self.view_is in
    ap length is ∙ length-take-le n (drop a.at (packet_of a.chain)) (omega (arith, c.requires, length-drop a.at (packet_of a.chain)))

pub returns : goal.returns
returns c =
    let w = c.self.inside.walk in
    let inside = c.self.inside.inside in
    let n = length c.args.out.now in
    let fits = subst (λ (x : At). x.at + n ≤ length (packet_of x.chain)) (sym c.self.view_is) c.requires in
    c.copy_out.ensures ∙ ap joined c.of.ensures ∙ ap (λ (s : List Buffer). joined (pieces_of inside n s)) c.rest.ensures.rest ∙ joined_rest w inside n fits
    ∙ ap (λ (x : At). take n (drop x.at (packet_of x.chain))) c.self.view_is
