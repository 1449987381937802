use Rattle.std.proofs.Common.{rules, refl, subst}
use Rattle.gcm_core.specs.Hashing.{IsHashed}
use Rattle.gcm_core.proofs.HashedText.{filled_is, held_is}
use Rattle.gcm_core.proofs.hash.Ghash.fill.Goals as goal

pub returns : goal.returns
returns c = λ key text h.
    let state = c.args.self.now in
    subst (IsHashed key c.hold.new.self) (filled_is text state.held _ (held_is key text state (search rules) h) refl) (c.hold.ensures.hashed key text h)
