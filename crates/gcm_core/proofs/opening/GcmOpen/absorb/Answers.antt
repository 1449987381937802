use Rattle.gcm_core.proofs.opening.GcmOpen.absorb.Goals as goal

pub returns : goal.returns
returns c = λ key iv aad text before. record { fresh = before.fresh; tagging = c.absorb.ensures key iv aad text before.tagging }
