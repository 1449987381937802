-- Each transform of a session makes a session alone.
use Rattle.std.proofs.Common.{◌≡◌, List, [], ◌∷◌, map, Bool, true, false, Option, None, Some, refl}
use Rattle.std.specs.Prelude.{not, ◌&&◌, if◌then◌else◌}
use Rattle.std.specs.List.{All}
use Rattle.std.proofs.lemmas.List.Elements.{All-nil, All-cons}
use Rattle.crypto_model.specs.Process.{Transform, Cipher, Auth, Aead}
use Rattle.crypto_model.specs.Session.{key_fits, digest_fits, aad_len_fits, is_chain}
use Rattle.crypto_model.specs.declared.plain.Dir.TheVariants.{Encrypt, Decrypt}
use Rattle.crypto_model.specs.declared.plain.Act.TheVariants.{Generate, Verify}
use Rattle.sym_session.specs.declared.refusal.MakeRefused.{MakeRefused}
use Rattle.sym_session.specs.declared.refusal.MakeRefused.TheVariants.{BadKeyLength, BadDigestLength, BadAadLength, BadChain}
use Rattle.sym_session.specs.Fault.{fault_of}
use Rattle.crypto_model.proofs.Both.{both}

-- what the four tests find
abbrev found : Bool → Bool → Bool → Bool → Option MakeRefused
found key digest aad chain =
    if not key then Some BadKeyLength else if not digest then Some BadDigestLength
    else if not aad then Some BadAadLength else if not chain then Some BadChain else None

all_hold : (key digest aad chain : Bool) → found key digest aad chain ≡ None
    → (key ≡ true) × (digest ≡ true) × (aad ≡ true) × (chain ≡ true)
all_hold true true true true h = (refl, refl, refl, refl)
all_hold false digest aad chain h = cc
all_hold true false aad chain h = cc
all_hold true true false chain h = cc
all_hold true true true false h = cc

none_found : (t : Transform) → key_fits t ≡ true → digest_fits t ≡ true → aad_len_fits t ≡ true
    → fault_of (t ∷ []) ≡ None
none_found t k d a = rw (k, d, a) refl

no_third : (t u v : Transform) (ts : List Transform) → is_chain (t ∷ u ∷ v ∷ ts) ≡ false
no_third (Cipher alg Encrypt key) (Cipher a d k) v ts = refl
no_third (Cipher alg Encrypt key) (Auth hash Generate k n) v ts = refl
no_third (Cipher alg Encrypt key) (Auth hash Verify k n) v ts = refl
no_third (Cipher alg Encrypt key) (Aead d k n m) v ts = refl
no_third (Cipher alg Decrypt key) u v ts = refl
no_third (Auth hash Generate key n) u v ts = refl
no_third (Auth hash Verify key n) (Cipher a Encrypt k) v ts = refl
no_third (Auth hash Verify key n) (Cipher a Decrypt k) v ts = refl
no_third (Auth hash Verify key n) (Auth g act k m) v ts = refl
no_third (Auth hash Verify key n) (Aead d k m len) v ts = refl
no_third (Aead dir key n aad_len) u v ts = refl

pub each_alone : {X : Type 0} (asked : X → Transform) (xs : List X) → fault_of (map asked xs) ≡ None
    → All (λ x. fault_of (asked x ∷ []) ≡ None) xs
each_alone asked [] h = All-nil (λ x. fault_of (asked x ∷ []) ≡ None)
each_alone asked (x ∷ []) h = All-cons (λ x. fault_of (asked x ∷ []) ≡ None) x [] h (All-nil (λ x. fault_of (asked x ∷ []) ≡ None))
each_alone asked (x ∷ y ∷ []) h =
    let fits = all_hold _ _ _ _ h in
    let keys = both _ _ fits.0 in
    let digests = both _ _ fits.1 in
    let lens = both _ _ fits.2 in
    All-cons (λ x. fault_of (asked x ∷ []) ≡ None) x (y ∷ [])
    (none_found (asked x) keys.0 digests.0 lens.0)
    (All-cons (λ x. fault_of (asked x ∷ []) ≡ None) y []
    (none_found (asked y) (both _ _ keys.1).0 (both _ _ digests.1).0 (both _ _ lens.1).0)
    (All-nil (λ x. fault_of (asked x ∷ []) ≡ None)))
each_alone asked (x ∷ y ∷ z ∷ zs) h =
    let fits = all_hold _ _ _ _ h in
    let none = no_third (asked x) (asked y) (asked z) (map asked zs) in
    let last = fits.3 in cc
