use Rattle.crypto_model.specs.Hmac.{hmac}
use Rattle.hmac_core.proofs.code.Hmac.finish.Goals as goal

pub returns-clause-value : goal.returns-clause-value
unfolding hmac
returns-clause-value c = λ hash bytes text h.
    let inside = c.finish-digest.ensures.value hash _ h.inner_holds in
    c.finish.ensures.value hash _ (rw inside at (c.update.ensures hash _ h.outer_holds))
