-- What contracts see of a step that makes or compares a code.
use Rattle.std.specs.Prelude.{ℕ, List}
use Rattle.crypto_model.specs.declared.plain.Hash.{Hash}
use Rattle.crypto_model.specs.declared.plain.Act.{Act}

pub record AuthSpec : Type 0 where
  pub hash : Hash
  pub act : Act
  pub key : List ℕ
  pub len : ℕ
