use Rattle.std.proofs.Common.{ap, sym, ◌∙◌, ◌∷◌, Some, None}
use Rattle.atomic_table.specs.Table.{rest}
use Rattle.flight_table.proofs.Owners.{owner_regains}
use Rattle.flight_table.proofs.owner.regain.Goals as goal

pub exchange-op-requires : goal.exchange-op-requires
exchange-op-requires c = let o = c.requires.out in (c.requires.seat.0, (Some o.0, o.1 ∙ ap (λ r. (c.args.k, Some o.0) ∷ r) (sym (ap rest o.1))))

pub store-requires : goal.store-requires
store-requires c = let o = c.requires.out in let s = c.requires.seat in let u = c.requires.view in let e = c.exchange-op.ensures in
    let v = c.args.seat.now.me.0 in
    (e.0 ∙ s.0, s.1, owner_regains _ _ _ _ v s.2 _ (e.3 ∙ ap (λ l. (v, (c.args.k, None) ∷ rest l)) o.1) u.0 u.1 u.2)
