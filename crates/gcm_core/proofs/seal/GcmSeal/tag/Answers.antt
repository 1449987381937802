use Rattle.gcm_core.proofs.seal.GcmSeal.tag.Goals as goal

pub returns : goal.returns
returns c = λ key iv aad text before. c.finish.ensures key iv aad _ before.tagging
