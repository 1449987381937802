-- A sealing under way.
use Rattle.std.specs.Prelude.{ℕ, List}
use Rattle.crypto_model.specs.Aes.{cipher}
use Rattle.crypto_model.specs.Gcm.{gcm_text}
use Rattle.gcm_core.specs.Streaming.{IsFed}
use Rattle.gcm_core.specs.Tagging.{IsTagging}
use Rattle.gcm_core.specs.declared.seal.GcmSeal.{GcmSeal}

-- the sealing s, begun with this key, IV and data that is only authenticated, has taken in this text
pub record IsSealed (key iv aad : List ℕ) (s : GcmSeal) (text : List ℕ) : Type 0 where
  pub fed : IsFed key iv s.stream text
  pub tagging : IsTagging key iv aad s.tag (gcm_text (cipher key) iv text)
