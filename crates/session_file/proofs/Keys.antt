-- A key that is too long makes no session.
use Rattle.std.proofs.Common.{◌≡◌, List, [], ◌∷◌, map, true, false, true≢false, refl, arith, Bool, ◌&&◌}
use Rattle.std.specs.List.{list_all}
use Rattle.std.proofs.lemmas.Bool.Decides.{nat_tests}
use Rattle.crypto_model.specs.Session.{key_fits}
use Rattle.sym_session.specs.Xform.{transform_of}
use Rattle.session_file.specs.Form.{PartWords, CipherWords, AeadWords, AuthWords}
use Rattle.session_file.specs.Fault.{makes_session, xform_of}
use Rattle.session_file.specs.View.{has_short_key}

unfit : (p : PartWords) → has_short_key p ≡ false → key_fits (transform_of (xform_of p)) ≡ false
unfit (CipherWords alg dir key salt) long = grind (arith, nat_tests)
unfit (AeadWords dir key salt tag aad) long = grind (arith, nat_tests)
unfit (AuthWords hash act key len) long = grind (arith, nat_tests)

and_false : (a b c d : Bool) → (a && b) ≡ false → (a ≡ false → c ≡ false) → (b ≡ false → d ≡ false) → (c && d) ≡ false
and_false true b true d e first second = second e
and_false true b false d e first second = refl
and_false false b c d e first second = rw (first refl) refl

unfit_all : (parts : List PartWords) → list_all has_short_key parts ≡ false → list_all key_fits (map transform_of (map xform_of parts)) ≡ false
unfit_all [] long = absurd (true≢false long)
unfit_all (p ∷ parts) long =
    and_false (has_short_key p) (list_all has_short_key parts) (key_fits (transform_of (xform_of p))) (list_all key_fits (map transform_of (map xform_of parts)))
    long (unfit p) (unfit_all parts)

pub long_key : (parts : List PartWords) → list_all has_short_key parts ≡ false → makes_session (map xform_of parts) ≡ false
unfolding makes_session
long_key parts long = rw (unfit_all parts long) refl
