-- The plan of `quick`.
use Rattle.std.specs.Prelude.{ℕ, List, [], ◌∷◌}
use Rattle.crypto_model.specs.declared.plain.CipherAlg.TheVariants.{AesCtr}
use Rattle.crypto_model.specs.declared.plain.Dir.TheVariants.{Encrypt}
use Rattle.sym_session.specs.declared.xform.Xform.TheVariants.{Cipher}
use Rattle.session_file.specs.declared.plan.Choice.TheVariants.{Use}
use Rattle.session_file.specs.declared.plan.Plan.{Plan}

-- one session, CTR under this key, for every packet whole
abbrev pub quick_plan : List ℕ → List ℕ → Plan
quick_plan key salt = record {
  sessions = record { name = []; xforms = Cipher AesCtr Encrypt key ∷ []; salt = salt } ∷ [];
  rules = [];
  otherwise = Use (record { 0 = 0 }) 0;
}
