use Rattle.std.proofs.Common.{◌<◌, length, map, take, ap, ◌∙◌, arith}
use Rattle.crypto_op.specs.Op.{entry_of}
use Rattle.event_adapter.proofs.Deal.{submit_inside}
use Rattle.event_adapter.proofs.adapter.Adapter.submit.Goals as goal

pub returns-in-Some-clause-pairs : goal.returns-in-Some-clause-pairs
returns-in-Some-clause-pairs g c =
    let s = c.submit_at.ensures.pairs in
    (c.in-Some.k, s.0, s.1, c.in-Some.ensures.found.0, s.2, s.3, ap (λ y. y.id) s.2 ∙ c.in-Some.ensures.found.1 s.0, s.4)

pub returns-in-Some-clause-bag : goal.returns-in-Some-clause-bag
returns-in-Some-clause-bag g c =
    let s = c.submit_at.ensures.pairs in
    let ps = c.args.self.now.pairs.items in
    let h : c.in-Some.k < length ps = omega (arith, c.in-Some.ensures.found.0, c.args.self.now.pairs.ok.0) in
    rw s.3 (submit_inside g.D.Driver ps c.in-Some.k s.0 s.1 c.args.id (map entry_of (take c.submit_at.result c.args.burst.now.ops)) c.args.self.now.out.ops h s.2 (ap (λ y. y.id) s.2 ∙ c.in-Some.ensures.found.1 s.0) s.4.id s.4.waiting s.4.takes.held)
