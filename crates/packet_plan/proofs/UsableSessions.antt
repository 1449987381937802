-- The sessions of a sound plan, and of the plan of `quick`.
use Rattle.std.proofs.Common.{◌≡◌, ℕ, List, [], ◌∷◌, length, get_or, true, None, refl, ◌∙◌, arith, inl, inr}
use Rattle.std.specs.List.{All, sum_by}
use Rattle.std.proofs.lemmas.List.Elements.{All-nil, All-cons}
use Rattle.crypto_model.specs.declared.plain.CipherAlg.TheVariants.{AesCbc, AesCtr}
use Rattle.crypto_model.specs.declared.plain.Dir.TheVariants.{Encrypt, Decrypt}
use Rattle.crypto_model.specs.declared.plain.Act.TheVariants.{Generate, Verify}
use Rattle.crypto_model.specs.Aes.{IsKeyLength, is_key_length}
use Rattle.crypto_model.specs.Process.{Transform, Cipher, Auth, Aead}
use Rattle.crypto_model.specs.Session.{is_chain}
use Rattle.sym_session.specs.Fault.{fault_of}
use Rattle.session_file.specs.declared.plan.Named.{Named}
use Rattle.session_file.specs.declared.plan.Plan.{Plan}
use Rattle.session_file.specs.Sound.{IsSound, IsSoundSession, salt_size}
use Rattle.packet_plan.specs.Asked.{transforms_of}
use Rattle.packet_plan.specs.Quick.{quick_plan}
use Rattle.packet_plan.specs.Ready.{IsUsable, salt_len}
use Rattle.packet_plan.proofs.Ways.{fits}

salt_sizes : (ts : List Transform) → is_chain ts ≡ true → sum_by salt_size ts ≡ salt_len ts
salt_sizes [] chain = cc
salt_sizes (Cipher AesCbc dir key ∷ []) chain = omega arith
salt_sizes (Cipher AesCtr dir key ∷ []) chain = omega arith
salt_sizes (Auth hash act key n ∷ []) chain = omega arith
salt_sizes (Aead dir key n aad_len ∷ []) chain = omega arith
salt_sizes (Cipher AesCbc Encrypt key ∷ Auth hash Generate code_key n ∷ []) chain = omega arith
salt_sizes (Cipher AesCtr Encrypt key ∷ Auth hash Generate code_key n ∷ []) chain = omega arith
salt_sizes (Auth hash Verify code_key n ∷ Cipher AesCbc Decrypt key ∷ []) chain = omega arith
salt_sizes (Auth hash Verify code_key n ∷ Cipher AesCtr Decrypt key ∷ []) chain = omega arith
salt_sizes (t ∷ u ∷ ts) chain = cc

usable : (s : Named) → fault_of (transforms_of s) ≡ None → length s.salt ≡ sum_by salt_size (transforms_of s) → IsUsable s
usable s none salted = record { made = none; salted = salted ∙ salt_sizes (transforms_of s) (fits (transforms_of s) none).chain }

-- each session of a sound plan can be made ready
pub all_usable : (plan : Plan) → IsSound plan → All IsUsable plan.sessions
all_usable plan sound = λ k d within. let at = sound.sessions k d within in usable (get_or plan.sessions k d) at.made at.salted

-- ---- the plan of `quick`

aes-length : (n : ℕ) → IsKeyLength n → is_key_length n ≡ true
aes-length n fit = elim fit [ inl e ↦ rw e refl | inr f ↦ elim f [ inl e ↦ rw e refl | inr e ↦ rw e refl ] ]

ctr_made : (key : List ℕ) → IsKeyLength (length key) → fault_of (Cipher AesCtr Encrypt key ∷ []) ≡ None
ctr_made key fit = rw (aes-length (length key) fit) refl

pub quick_sound : (key salt : List ℕ) → IsKeyLength (length key) → length salt ≡ 4 → IsSound (quick_plan key salt)
quick_sound key salt fit four = record {
  sessions = All-cons IsSoundSession _ [] (record { made = ctr_made key fit; salted = omega arith }) (All-nil IsSoundSession);
  few = omega arith;
  few_rules = omega arith;
  rules = refl;
  otherwise = refl;
}
