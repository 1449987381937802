-- What holds of every plan that a text says.
use Rattle.std.specs.Prelude.{◌≡◌, ◌≤◌, ℕ, Bool, true, false, List, length, map, sum_by, slice_get, None}
use Rattle.std.specs.List.{All, list_all}
use Rattle.std.specs.Option.{option_map_or}
use Rattle.crypto_model.specs.declared.plain.CipherAlg.TheVariants.{AesCbc, AesCtr}
use Rattle.crypto_model.specs.Process.{Transform, Cipher, Auth, Aead}
use Rattle.sym_session.specs.Xform.{transform_of}
use Rattle.sym_session.specs.Fault.{fault_of}
use Rattle.session_file.specs.declared.plan.Choice.{Choice}
use Rattle.session_file.specs.declared.plan.Choice.TheVariants.{Pass, Use}
use Rattle.session_file.specs.declared.plan.Named.{Named}
use Rattle.session_file.specs.declared.plan.Plan.{Plan}
use Rattle.session_file.specs.Fault.{takes_skip}

-- how many bytes of salt a transform takes: 8 for CBC, 4 for CTR and GCM, none for a code
abbrev pub salt_size : Transform → ℕ
salt_size (Cipher AesCbc dir key) = 8
salt_size (Cipher AesCtr dir key) = 4
salt_size (Auth hash act key n) = 0
salt_size (Aead dir key n aad_len) = 4

-- the transforms make a session, whose salt has the bytes that they take together
pub record IsSoundSession (s : Named) : Type 0 where
  pub made : fault_of (map transform_of s.xforms) ≡ None
  pub salted : length s.salt ≡ sum_by salt_size (map transform_of s.xforms)

-- a choice names a session that is there, which takes its skip
abbrev pub choice_holds : List Named → Choice → Bool
choice_holds sessions Pass = true
choice_holds sessions (Use id skip) = option_map_or (λ s. takes_skip skip s.xforms) (slice_get sessions id.0) false

pub record IsSound (plan : Plan) : Type 0 where
  pub sessions : All IsSoundSession plan.sessions
  pub few : length plan.sessions ≤ 1024
  pub few_rules : length plan.rules ≤ 1024
  pub rules : list_all (λ r. choice_holds plan.sessions r.choice) plan.rules ≡ true
  pub otherwise : choice_holds plan.sessions plan.otherwise ≡ true
