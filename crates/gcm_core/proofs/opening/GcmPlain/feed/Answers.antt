use Rattle.gcm_core.proofs.opening.GcmPlain.feed.Goals as goal

pub returns : goal.returns
returns c = λ key iv text before.
    let fed = c.feed.ensures key iv text before.fed in
    (record { fed = fed.0 }, fed.1)
