-- Transforms, one after another.
use Rattle.std.proofs.Common.{◌≡◌, ℕ, zero, suc, ◌<◌, ◌+◌, ◌%◌, List, [], ◌∷◌, length, map, refl, sym, ap, ◌∙◌, arith, true, drop, slice_index_or}
use Rattle.std.specs.Prelude.{Option, Some, None, nat_le}
use Rattle.std.specs.List.{list_all}
use Rattle.std.proofs.lemmas.Bool.{leb-true, eqb-true}
use Rattle.std.proofs.lemmas.List.{drop_more}
use Rattle.crypto_model.specs.declared.plain.Act.TheVariants.{Generate, Verify}
use Rattle.crypto_model.specs.declared.plain.CipherAlg.{CipherAlg}
use Rattle.crypto_model.specs.declared.plain.CipherAlg.TheVariants.{AesCbc, AesCtr}
use Rattle.crypto_model.specs.declared.plain.DigestPlace.{DigestPlace}
use Rattle.crypto_model.specs.declared.plain.DigestPlace.TheVariants.{Nowhere, InChain, OwnField}
use Rattle.crypto_model.specs.declared.plain.Dir.{Dir}
use Rattle.crypto_model.specs.declared.plain.Dir.TheVariants.{Encrypt, Decrypt}
use Rattle.crypto_model.specs.Process.{Transform, Cipher, Auth, Aead, Input, Work, range_lies, iv_fits, aad_fits, data_fits, digest_apart, place_holds, place_fits, transform_fits, worked, all_worked}
use Rattle.crypto_op.specs.declared.spec.OpSpec.{OpSpec}
use Rattle.sym_session.specs.declared.step.Step.{Step}
use Rattle.sym_session.specs.First.{never_fails, VerifiesFirst}
use Rattle.sym_session.specs.Plain.{plain}
use Rattle.sym_engine.specs.Working.{input_for, place_ready, ready}
use Rattle.crypto_model.proofs.Both.{both}
use Rattle.sym_engine.proofs.EachItem.{one_of_all}

pub all_none : (ts : List Transform) (input : Input) → all_worked ts input None ≡ None
all_none [] input = refl
all_none (t ∷ ts) input = all_none ts input

pub step_on : (steps : List Step) (i : ℕ) (step : Step) (input : Input) (w : Work) (o : Option Work) → i < length steps → step ≡ slice_index_or steps i step
    → worked (plain step) input w ≡ o → all_worked (map plain (drop i steps)) input (Some w) ≡ all_worked (map plain (drop (i + 1) steps)) input o
step_on steps i step input w o within is works =
    ap (λ (ss : List Step). all_worked (map plain ss) input (Some w)) (drop_more steps i step within ∙ ap (λ (s : Step). s ∷ drop (i + 1) steps) (sym is))
    ∙ ap (λ (x : Option Work). all_worked (map plain (drop (i + 1) steps)) input x) works

cannot_fail : (t : Transform) (input : Input) (w : Work) → never_fails t ≡ true → worked t input w ≡ None → ⊥
cannot_fail (Cipher alg dir key) input w h none = (cc)
cannot_fail (Auth hash Generate key n) input w h none = (cc)
cannot_fail (Auth hash Verify key n) input w h none = (cc)
cannot_fail (Aead Encrypt key n aad_len) input w h none = (cc)
cannot_fail (Aead Decrypt key n aad_len) input w h none = (cc)

pub only_first : (steps : List Step) (i : ℕ) (step : Step) (input : Input) (w : Work) → VerifiesFirst (map plain steps) → i < length steps → step ≡ slice_index_or steps i step
    → worked (plain step) input w ≡ None → i ≡ 0
only_first [] i step input w first within is none = absurd (omega arith)
only_first (s ∷ ss) zero step input w first within is none = refl
only_first (s ∷ ss) (suc i) step input w first within is none = absurd (cannot_fail (plain step) input w (one_of_all never_fails plain ss i step (omega arith) is first) none)

place_is_ready : (spec : OpSpec) (p q : List ℕ) (all : List Transform) (n : ℕ) (place : DigestPlace) → length q ≡ length p → place_holds (input_for spec p) all n place ≡ true → place_ready n q place
place_is_ready spec p q all n Nowhere same h = (cc)
place_is_ready spec p q all n OwnField same h = tt
place_is_ready spec p q all n (InChain at) same h =
    let g = leb-true (at + n) (length p) (both (nat_le (at + n) (length p)) (list_all (digest_apart (input_for spec p) at n) all) h).0 in omega (arith, g, same)

data_is_ready : (alg : CipherAlg) (dir : Dir) (key : List ℕ) (input : Input) → data_fits input (Cipher alg dir key) ≡ true → alg ≡ AesCbc → input.cipher.len % 16 ≡ 0
data_is_ready AesCbc dir key input h e = eqb-true (input.cipher.len % 16) 0 h
data_is_ready AesCtr dir key input h e = (cc)

-- each check by itself
record Fits (input : Input) (all : List Transform) (t : Transform) : Type 0 where
  range : range_lies input t ≡ true
  iv : iv_fits input t ≡ true
  aad : aad_fits input t ≡ true
  data_is : data_fits input t ≡ true
  place : place_fits input all t ≡ true

fits_apart : (input : Input) (all : List Transform) (t : Transform) → transform_fits input all t ≡ true → Fits input all t
fits_apart input all t h =
    let a = both (range_lies input t) _ h in
    let b = both (iv_fits input t) _ a.1 in
    let c = both (aad_fits input t) _ b.1 in
    let d = both (data_fits input t) _ c.1 in
    record { range = a.0; iv = b.0; aad = c.0; data_is = d.0; place = d.1 }

-- the checks give a transform what it needs, at any packet of that length
pub made_ready : (spec : OpSpec) (p q : List ℕ) (all : List Transform) (t : Transform) → length q ≡ length p → transform_fits (input_for spec p) all t ≡ true → ready (input_for spec q) t
made_ready spec p q all (Cipher alg dir key) same h =
    let f = fits_apart (input_for spec p) all (Cipher alg dir key) h in
    let r = leb-true (spec.cipher.off + spec.cipher.len) (length p) f.range in
    (omega (arith, r, same), eqb-true (length spec.iv) 16 f.iv, data_is_ready alg dir key (input_for spec p) f.data_is)
made_ready spec p q all (Auth hash act key n) same h =
    let f = fits_apart (input_for spec p) all (Auth hash act key n) h in
    let r = leb-true (spec.auth.off + spec.auth.len) (length p) f.range in
    (omega (arith, r, same), place_is_ready spec p q all n spec.place same f.place)
made_ready spec p q all (Aead dir key n aad_len) same h =
    let f = fits_apart (input_for spec p) all (Aead dir key n aad_len) h in
    let r = leb-true (spec.cipher.off + spec.cipher.len) (length p) f.range in
    (omega (arith, r, same), eqb-true (length spec.iv) 12 f.iv, place_is_ready spec p q all n spec.place same f.place)
