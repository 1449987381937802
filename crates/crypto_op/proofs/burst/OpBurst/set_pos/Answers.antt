use Rattle.std.proofs.Common.{ap}
use Rattle.crypto_op.proofs.Moved.{set_moved}
use Rattle.crypto_op.proofs.burst.OpBurst.set_pos.Goals as goal

pub returns : goal.returns
returns g c =
    let e = set_moved c.self.inside.ops.items c.args.i c.args.pos c.index_mut-op.result.now (rw (← c.self.view_is) at c.requires) c.index_mut-op.ensures.value in
    rw (← c.self.view_is, c.set_pos.ensures) (ap (λ l. record { cap = c.self.inside.cap; ops = l }) e)
