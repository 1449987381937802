use Rattle.std.proofs.Common.{◌≡◌, ◌<◌, ◌==◌, length, ap, ◌∙◌, sym, subst, arith}
use Rattle.event_adapter.specs.declared.queue_pair.QueuePair.{QueuePair}
use Rattle.std.specs.List.{count_by}
use Rattle.std.proofs.lemmas.List.{get_or_default}
use Rattle.crypto_model.specs.Counts.{capped}
use Rattle.event_adapter.specs.Inside.{inside_at}
use Rattle.event_adapter.proofs.Count.{count_inside}
use Rattle.event_adapter.proofs.adapter.pending_at.Goals as goal

pub returns-clause-exact : goal.returns-clause-exact
returns-clause-exact g c =
    let d = c.index-pair.result.now in
    let ps = c.args.pairs.now.items in
    let h : c.args.k < length ps = omega (arith, c.requires.at, c.args.pairs.now.ok.0) in
    let e = count_inside g.D.Driver ps c.args.out.now.ops c.args.k d d h c.index-pair.ensures c.requires.distinct in
    let mine : d.id ≡ c.args.id = ap (λ y. y.id) c.index-pair.ensures ∙ c.requires.named d in
    let going : count_by (λ e. e.qp == d.id) c.args.out.now.ops ≡ c.count-going.result = ap (λ i. count_by (λ e. e.qp == i) c.args.out.now.ops) mine ∙ sym c.count-going.ensures.exact in
    let driver = g.D.Driver in
    subst (λ i. c.saturating_add.result ≡ capped (inside_at driver ps c.args.out.now.ops i)) (c.requires.named d) (rw e (omega (arith, c.saturating_add.ensures, c.saturating_add-here.ensures, c.held-held.ensures, c.len-waiting.ensures, going)))

pub returns-clause-empty : goal.returns-clause-empty
returns-clause-empty g c = λ z d.
    let ps = c.args.pairs.now.items in
    let p = c.index-pair.result.now in
    let h : c.args.k < length ps = omega (arith, c.requires.at, c.args.pairs.now.ok.0) in
    let e = ap (λ (y : QueuePair g.row.C.Denot g.row.D.Denot). length y.waiting.ops) (get_or_default ps c.args.k d p h) in
    let f = ap (λ (y : QueuePair g.row.C.Denot g.row.D.Denot). length y.waiting.ops) c.index-pair.ensures in
    omega (arith, z, e, f, c.saturating_add.ensures, c.saturating_add-here.ensures, c.len-waiting.ensures)
