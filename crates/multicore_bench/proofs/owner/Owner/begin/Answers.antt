use Rattle.std.proofs.Common.{◌∷◌, []}
use Rattle.std.proofs.lemmas.List.Elements.{All-append, All-cons, All-nil}
use Rattle.crypto_op.specs.Op.{IsFresh}
use Rattle.multicore_bench.proofs.owner.Owner.begin.Goals as goal

pub invariant_of-self-clause-fresh : goal.invariant_of-self-clause-fresh
invariant_of-self-clause-fresh c =
    let o = c.args.self.now in let op = c.renew.new.self in
    rw c.push.ensures (All-append IsFresh o.burst.ops (op ∷ []) o.fresh (All-cons IsFresh op [] c.renew.ensures.fresh (All-nil IsFresh)))
