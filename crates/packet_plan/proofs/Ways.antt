-- The transforms of a session, and what is done with its packets.
use Rattle.std.proofs.Common.{◌≡◌, ℕ, ◌+◌, ◌≤◌, List, [], ◌∷◌, length, get_or, map, Bool, true, false, None, Option, Some, refl, ap, sym, ◌∙◌, arith, inl, inr}
use Rattle.std.specs.Prelude.{not, ◌||◌, ◌⊎◌, if◌then◌else◌}
use Rattle.std.specs.List.{list_all}
use Rattle.std.proofs.lemmas.Bool.Decides.{nat_tests}
use Rattle.std.proofs.lemmas.List.{length-map}
use Rattle.crypto_model.specs.declared.plain.Hash.{Hash}
use Rattle.crypto_model.specs.declared.plain.Hash.TheVariants.{Sha224, Sha256, Sha384, Sha512}
use Rattle.crypto_model.specs.declared.plain.Dir.TheVariants.{Encrypt, Decrypt}
use Rattle.crypto_model.specs.declared.plain.Act.TheVariants.{Generate, Verify}
use Rattle.crypto_model.specs.Hmac as hmac
use Rattle.crypto_model.specs.Process.{Transform, Cipher, Auth, Aead}
use Rattle.crypto_model.specs.Session.{key_fits, digest_fits, aad_len_fits, is_chain}
use Rattle.sym_session.specs.declared.refusal.MakeRefused.{MakeRefused}
use Rattle.sym_session.specs.declared.refusal.MakeRefused.TheVariants.{BadKeyLength, BadDigestLength, BadAadLength, BadChain}
use Rattle.sym_session.specs.declared.xform.Xform.{Xform}
use Rattle.sym_session.specs.Xform.{transform_of}
use Rattle.sym_session.specs.Fault.{fault_of}
use Rattle.packet_plan.specs.declared.way.Way.{Way}
use Rattle.packet_plan.specs.Way.{way_of, takes_back, digest_len_of, digests_len, has_data, has_code, has_aad}
use Rattle.crypto_model.proofs.Both.{both}

-- what the four tests find
abbrev found : Bool → Bool → Bool → Bool → Option MakeRefused
found key digest aad chain =
    if not key then Some BadKeyLength else if not digest then Some BadDigestLength
    else if not aad then Some BadAadLength else if not chain then Some BadChain else None

all_hold : (key digest aad chain : Bool) → found key digest aad chain ≡ None → (key ≡ true) × (digest ≡ true) × (aad ≡ true) × (chain ≡ true)
all_hold true true true true h = (refl, refl, refl, refl)
all_hold false digest aad chain h = cc
all_hold true false aad chain h = cc
all_hold true true false chain h = cc
all_hold true true true false h = cc

-- what each of the tests says of a session
pub record Fits (ts : List Transform) : Type 0 where
  pub keys : list_all key_fits ts ≡ true
  pub digests : list_all digest_fits ts ≡ true
  pub aads : list_all aad_len_fits ts ≡ true
  pub chain : is_chain ts ≡ true

pub fits : (ts : List Transform) → fault_of ts ≡ None → Fits ts
fits ts h =
    let all = all_hold _ _ _ _ h in
    record { keys = all.0; digests = all.1; aads = all.2; chain = all.3 }

hash-most : (hash : Hash) → hmac.digest_size hash ≤ 64
hash-most Sha224 = omega arith
hash-most Sha256 = omega arith
hash-most Sha384 = omega arith
hash-most Sha512 = omega arith

digest-most : (t : Transform) → digest_fits t ≡ true → digest_len_of t ≤ 64
digest-most (Cipher alg dir key) h = omega arith
digest-most (Auth hash act key n) h = let most = hash-most hash in grind (arith, nat_tests)
digest-most (Aead dir key n aad_len) h = grind (arith, nat_tests)

chain-most : (ts : List Transform) → is_chain ts ≡ true → list_all digest_fits ts ≡ true → digests_len ts ≤ 64
chain-most [] chain fit = omega arith
chain-most (t ∷ []) chain fit = omega (arith, digest-most t (both _ _ fit).0)
chain-most (Cipher alg Encrypt key ∷ Auth hash Generate code_key n ∷ []) chain fit = omega (arith, digest-most (Auth hash Generate code_key n) (both _ _ fit).0)
chain-most (Auth hash Verify code_key n ∷ Cipher alg Decrypt key ∷ []) chain fit = omega (arith, digest-most (Auth hash Verify code_key n) (both _ _ fit).0)
chain-most (t ∷ u ∷ ts) chain fit = cc

-- a session's digest has at most 64 bytes
pub digests_len-most : (ts : List Transform) → fault_of ts ≡ None → digests_len ts ≤ 64
digests_len-most ts h = let f = fits ts h in chain-most ts f.chain f.digests

chain-few : (ts : List Transform) → is_chain ts ≡ true → (length ts ≡ 1) ⊎ (length ts ≡ 2)
chain-few [] chain = cc
chain-few (t ∷ []) chain = inl refl
chain-few (Cipher alg Encrypt key ∷ Auth hash Generate code_key n ∷ []) chain = inr refl
chain-few (Auth hash Verify code_key n ∷ Cipher alg Decrypt key ∷ []) chain = inr refl
chain-few (t ∷ u ∷ ts) chain = cc

-- a session has one transform or two
pub one_or_two : (xs : List Xform) → fault_of (map transform_of xs) ≡ None → (length xs ≡ 1) ⊎ (length xs ≡ 2)
one_or_two xs h = grind (arith, chain-few (map transform_of xs) (fits (map transform_of xs) h).chain, length-map xs transform_of)

two_items : {X : Type 0} (xs : List X) (x y : X) → length xs ≡ 2 → x ≡ get_or xs 0 x → y ≡ get_or xs 1 y → xs ≡ x ∷ y ∷ []
two_items [] x y two is is' = cc
two_items (a ∷ []) x y two is is' = cc
two_items (a ∷ b ∷ []) x y two is is' = cc
two_items (a ∷ b ∷ d ∷ xs) x y two is is' = absurd (omega arith)

one_item : {X : Type 0} (xs : List X) (x : X) → length xs ≡ 1 → x ≡ get_or xs 0 x → xs ≡ x ∷ []
one_item [] x one is = cc
one_item (a ∷ []) x one is = cc
one_item (a ∷ b ∷ xs) x one is = absurd (omega arith)

-- two ways together
pub record IsBoth (both one other : Way) : Type 0 where
  pub inward : both.inward ≡ (one.inward || other.inward)
  pub digest_len : both.digest_len ≡ one.digest_len + other.digest_len
  pub crypts : both.crypts ≡ (one.crypts || other.crypts)
  pub code : both.code ≡ (one.code || other.code)
  pub aead : both.aead ≡ (one.aead || other.aead)

either : {X : Type 0} (p : X → Bool) (x y : X) → ((p x || false) || (p y || false)) ≡ (p x || (p y || false))
either p x y = elim (p x) as (λ v. ((v || false) || (p y || false)) ≡ (v || (p y || false))) [ true ↦ refl | false ↦ refl ]

-- ways of the same parts
same_way : (w : Way) (inward crypts code aead : Bool) (digest_len : ℕ) → w.inward ≡ inward → w.digest_len ≡ digest_len → w.crypts ≡ crypts → w.code ≡ code
    → w.aead ≡ aead → w ≡ record { inward = inward; digest_len = digest_len; crypts = crypts; code = code; aead = aead }
same_way w inward crypts code aead digest_len i d c k a = rw (← i, ← d, ← c, ← k, ← a) refl

pair_way : (t u : Transform) (w : Way) → IsBoth w (way_of (t ∷ [])) (way_of (u ∷ [])) → w ≡ way_of (t ∷ u ∷ [])
unfolding way_of
pair_way t u w is =
    same_way w _ _ _ _ _ (is.inward ∙ either takes_back t u) (omega (arith, is.digest_len)) (is.crypts ∙ either has_data t u)
    (is.code ∙ either has_code t u) (is.aead ∙ either has_aad t u)

-- the way of a session of two transforms
pub way_of-two : (xs : List Xform) (x y : Xform) (w one other : Way) → length xs ≡ 2 → x ≡ get_or xs 0 x → y ≡ get_or xs 1 y
    → one ≡ way_of (transform_of x ∷ []) → other ≡ way_of (transform_of y ∷ []) → IsBoth w one other → w ≡ way_of (map transform_of xs)
way_of-two xs x y w one other two is is' first second both =
    let parts : IsBoth w (way_of (transform_of x ∷ [])) (way_of (transform_of y ∷ [])) = rw (first, second) at both in
    pair_way (transform_of x) (transform_of y) w parts ∙ ap (λ (l : List Xform). way_of (map transform_of l)) (sym (two_items xs x y two is is'))

-- its digests are few bytes together
pub two_sizes : (xs : List Xform) (x y : Xform) (one other : Way) → fault_of (map transform_of xs) ≡ None → length xs ≡ 2 → x ≡ get_or xs 0 x
    → y ≡ get_or xs 1 y → one ≡ way_of (transform_of x ∷ []) → other ≡ way_of (transform_of y ∷ []) → one.digest_len + other.digest_len ≤ 64
unfolding way_of
two_sizes xs x y one other h two is is' first second =
    let most = digests_len-most (map transform_of xs) h in
    let all = ap (λ (l : List Xform). digests_len (map transform_of l)) (two_items xs x y two is is') in
    omega (arith, most, all, ap (λ (w : Way). w.digest_len) first, ap (λ (w : Way). w.digest_len) second)
