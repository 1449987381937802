-- An opening under way.
use Rattle.std.specs.Prelude.{ℕ, List, []}
use Rattle.gcm_core.specs.Streaming.{IsFed}
use Rattle.gcm_core.specs.Tagging.{IsTagging}
use Rattle.gcm_core.specs.declared.opening.GcmOpen.{GcmOpen}
use Rattle.gcm_core.specs.declared.opening.GcmPlain.{GcmPlain}

-- the opening s, begun with this key, IV and data that is only authenticated, has taken in this ciphertext
pub record IsAbsorbed (key iv aad : List ℕ) (s : GcmOpen) (text : List ℕ) : Type 0 where
  pub fresh : IsFed key iv s.stream []
  pub tagging : IsTagging key iv aad s.tag text

-- the verified opening s has decrypted this ciphertext
pub record IsOpened (key iv : List ℕ) (s : GcmPlain) (text : List ℕ) : Type 0 where
  pub fed : IsFed key iv s.stream text
