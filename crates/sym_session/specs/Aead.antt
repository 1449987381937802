-- What contracts see of a step that seals or opens.
use Rattle.std.specs.Prelude.{ℕ, List}
use Rattle.crypto_model.specs.declared.plain.Dir.{Dir}

pub record AeadSpec : Type 0 where
  pub dir : Dir
  pub key : List ℕ
  pub tag_len : ℕ
  pub aad_len : ℕ
