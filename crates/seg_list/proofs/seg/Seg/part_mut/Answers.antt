use Rattle.std.proofs.Common.{◌+◌, ◌≤◌, length, take, drop, refl, sym, ap, subst, ◌∙◌, arith}
use Rattle.crypto_model.proofs.Laid.{lent_piece}
use Rattle.seg_list.specs.Buffer.{Buffer}
use Rattle.seg_list.proofs.Cuts.{relaid_at-lent, cut_at-at, range_of_body}
use Rattle.seg_list.proofs.seg.Seg.part_mut.Goals as goal

pub returns : goal.returns
returns c =
    let s = c.self.inside in
    let xs = s.buf.items in
    let e = cut_at-at s.off s.len xs (omega arith) in
    let short : c.args.at + c.args.len ≤ s.len = subst (λ k. c.args.at + c.args.len ≤ k) (ap (λ (b : Buffer). length b.body) (sym c.self.view_is) ∙ e.1) c.requires in (
      (
        refl,
        λ w. relaid_at-lent s.off s.len c.args.at w xs _ c.args.self.now (omega arith) (omega arith) c.self.view_is
            (lent_piece (s.off + c.args.at) s.buf.len w xs _ s.buf.ok.0 (omega arith)),
      ),
      record { writes_back = tt; value = c.slice_mut.ensures.value ∙ range_of_body s.off s.len c.args.at c.args.len xs short ∙ ap (λ (b : Buffer). take c.args.len (drop c.args.at b.body)) c.self.view_is },
    )
