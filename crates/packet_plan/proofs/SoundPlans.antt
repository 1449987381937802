-- What a sound plan is known to hold.
use Rattle.std.proofs.Common.{◌≡◌, ℕ, ◌+◌, ◌≤◌, List, [], ◌∷◌, map, true, false, Option, None, Some, slice_get, refl, arith}
use Rattle.std.specs.Prelude.{if◌then◌else◌}
use Rattle.std.specs.List.{list_all, list_any}
use Rattle.std.specs.Option.{option_map_or}
use Rattle.std.proofs.lemmas.Bool.Decides.{nat_tests}
use Rattle.crypto_model.specs.declared.plain.Dir.TheVariants.{Encrypt, Decrypt}
use Rattle.crypto_model.specs.declared.plain.Act.TheVariants.{Generate, Verify}
use Rattle.crypto_model.specs.declared.plain.SessId.{SessId}
use Rattle.sym_session.specs.declared.xform.Xform.{Xform}
use Rattle.sym_session.specs.declared.xform.Xform.TheVariants as X
use Rattle.sym_session.specs.Xform.{transform_of}
use Rattle.session_file.specs.declared.plan.Choice.{Choice}
use Rattle.session_file.specs.declared.plan.Choice.TheVariants.{Use}
use Rattle.session_file.specs.declared.plan.Named.{Named}
use Rattle.session_file.specs.declared.plan.Rule.{Rule}
use Rattle.session_file.specs.Fault.{takes_skip}
use Rattle.session_file.specs.Sound.{choice_holds}
use Rattle.packet_plan.specs.Asked.{chosen_from, has_bytes, transforms_of}
use Rattle.packet_plan.specs.Way.{way_of, has_aad}
use Rattle.packet_plan.specs.Ready.{IsUsable}
use Rattle.crypto_model.proofs.Both.{both}
use Rattle.packet_plan.proofs.Ways.{Fits, fits}

-- what the rules and the default keep, the choice keeps
pub chosen_holds : (ss : List Named) (rules : List Rule) (otherwise : Choice) (packet : List ℕ) (i : ℕ) → list_all (λ r. choice_holds ss r.choice) rules ≡ true
    → choice_holds ss otherwise ≡ true → choice_holds ss (chosen_from i rules otherwise packet).choice ≡ true
unfolding chosen_from
chosen_holds ss [] otherwise packet i all default = default
chosen_holds ss (rule ∷ rules) otherwise packet i all default =
    let parts = both (choice_holds ss rule.choice) (list_all (λ r. choice_holds ss r.choice) rules) all in
    elim (has_bytes packet rule) as (λ v. choice_holds ss (if v then record { choice = rule.choice; flow = i + 1 } else chosen_from (i + 1) rules otherwise packet).choice ≡ true)
    [ true ↦ parts.0 | false ↦ chosen_holds ss rules otherwise packet (i + 1) parts.1 default ]

-- the session that a choice names
pub record IsNamed (ss : List Named) (i skip : ℕ) (s : Named) : Type 0 where
  pub got : slice_get ss i ≡ Some s
  pub skips : takes_skip skip s.xforms ≡ true

named_by : (ss : List Named) (i skip : ℕ) (o : Option Named) → slice_get ss i ≡ o → option_map_or (λ s. takes_skip skip s.xforms) o false ≡ true → (s : Named) × IsNamed ss i skip s
named_by ss i skip None got h = cc
named_by ss i skip (Some s) got h = (s, record { got = got; skips = h })

pub named : (ss : List Named) (id : SessId) (skip : ℕ) → choice_holds ss (Use id skip) ≡ true → (s : Named) × IsNamed ss id.0 skip s
named ss id skip h = named_by ss id.0 skip (slice_get ss id.0) refl h

skip-most : (xs : List Xform) (skip : ℕ) → Fits (map transform_of xs) → takes_skip skip xs ≡ true → list_any has_aad (map transform_of xs) ≡ true → skip ≤ 255
skip-most [] skip f takes aead = cc
skip-most (X.Aead dir key n aad_len ∷ []) skip f takes aead = let most = f.aads in grind (arith, nat_tests)
skip-most (X.Cipher alg dir key ∷ []) skip f takes aead = cc
skip-most (X.Auth hash act key n ∷ []) skip f takes aead = cc
skip-most (X.Cipher alg Encrypt key ∷ X.Auth hash Generate code_key n ∷ []) skip f takes aead = cc
skip-most (X.Auth hash Verify code_key n ∷ X.Cipher alg Decrypt key ∷ []) skip f takes aead = cc
skip-most (x ∷ y ∷ xs) skip f takes aead = let chain = f.chain in cc

-- with GCM at most 255 bytes are skipped
pub skip_short : (s : Named) (skip : ℕ) → IsUsable s → takes_skip skip s.xforms ≡ true → (way_of (transforms_of s)).aead ≡ true → skip ≤ 255
unfolding way_of
skip_short s skip is takes aead = skip-most s.xforms skip (fits (transforms_of s) is.made) takes aead
