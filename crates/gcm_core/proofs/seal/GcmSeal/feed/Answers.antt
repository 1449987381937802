use Rattle.std.proofs.Common.{subst, sym}
use Rattle.crypto_model.specs.Aes.{cipher}
use Rattle.crypto_model.specs.Gcm.{gcm_text}
use Rattle.gcm_core.specs.Tagging.{IsTagging}
use Rattle.gcm_core.proofs.seal.GcmSeal.feed.Goals as goal

pub returns : goal.returns
returns c = λ key iv aad text before.
    let fed = c.feed.ensures key iv text before.fed in
    let taken = c.absorb.ensures key iv aad (gcm_text (cipher key) iv text) before.tagging in
    (record { fed = fed.0; tagging = subst (IsTagging key iv aad c.absorb.new.self) (sym fed.1) taken }, fed.1)
