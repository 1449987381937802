use Rattle.std.proofs.Common.{◌≡◌, ◌+◌, length, true, sym, ap, ◌∙◌}
use Rattle.std.specs.Prelude.{nat_le}
use Rattle.sym_engine.proofs.checks.digest_has_place.Goals as goal

pub returns-then-lies : goal.returns-then-lies
returns-then-lies c = λ p e.
    let within : nat_le (c.in-InChain.at + c.args.n) (length p) ≡ true = ap (nat_le (c.in-InChain.at + c.args.n)) (sym e) ∙ sym c.lies.ensures ∙ c.if-lies.true in
    rw c.in-InChain.is (rw within (c.digest_is_apart.ensures p))
