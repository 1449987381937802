-- The sessions and choices of lines without a fault are sound.
use Rattle.std.proofs.Common.{◌≡◌, ◌∙◌, List, [], ◌∷◌, length, true, true≢false, sym, refl, arith, Option, Some, None, map, length-append}
use Rattle.std.specs.Prelude.{is_none, sum_by}
use Rattle.std.specs.List.{flat_map, list_all}
use Rattle.std.proofs.lemmas.Bool.Decides.{nat_tests}
use Rattle.std.proofs.lemmas.List.Sums.{sum_by-cons}
use Rattle.crypto_model.specs.declared.plain.CipherAlg.TheVariants.{AesCbc, AesCtr}
use Rattle.sym_session.specs.Xform.{transform_of}
use Rattle.sym_session.specs.Fault.{fault_of}
use Rattle.session_file.specs.declared.plan.Choice.{Choice}
use Rattle.session_file.specs.declared.plan.Choice.TheVariants.{Pass, Use}
use Rattle.session_file.specs.declared.plan.Named.{Named}
use Rattle.session_file.specs.Value.{Word}
use Rattle.session_file.specs.Form.{PartWords, CipherWords, AeadWords, AuthWords}
use Rattle.session_file.specs.Fault.{has_good_salt, makes_session, part_salt, xform_of}
use Rattle.session_file.specs.Sound.{IsSoundSession, choice_holds, salt_size}
use Rattle.crypto_model.proofs.Both.{both}
use Rattle.session_file.proofs.SessionLines.{IsSession, session_of}
use Rattle.session_file.proofs.RuleLines.{IsChoice}

none_of : {E : Type 0} (o : Option E) → is_none o ≡ true → o ≡ None
none_of None e = refl
none_of (Some x) e = absurd (true≢false (sym e))

-- the salt of one X has the bytes that its transform takes
part_salted : (p : PartWords) → has_good_salt p ≡ true → length (part_salt p) ≡ salt_size (transform_of (xform_of p))
part_salted (CipherWords AesCbc dir key salt) e = grind (arith, nat_tests)
part_salted (CipherWords AesCtr dir key salt) e = grind (arith, nat_tests)
part_salted (AeadWords dir key salt tag aad) e = grind (arith, nat_tests)
part_salted (AuthWords hash act key len) e = refl

parts_salted : (parts : List PartWords) → list_all has_good_salt parts ≡ true
    → length (flat_map part_salt parts) ≡ sum_by salt_size (map transform_of (map xform_of parts))
parts_salted [] e = refl
parts_salted (p ∷ parts) e =
    let all = both (has_good_salt p) (list_all has_good_salt parts) e in
    length-append (part_salt p) (flat_map part_salt parts)
    ∙ (rw (part_salted p all.0, parts_salted parts all.1) (sym (sum_by-cons salt_size (transform_of (xform_of p)) (map transform_of (map xform_of parts)))))

pub session_sound : (ss : List Named) (name : Word) (parts : List PartWords) → IsSession ss name parts → IsSoundSession (session_of name parts)
unfolding makes_session
session_sound ss name parts is = record {
  made = none_of (fault_of (map transform_of (map xform_of parts))) is.made;
  salted = parts_salted parts is.salted;
}

pub choice_sound : (ss : List Named) (c : Choice) → IsChoice ss c → choice_holds ss c ≡ true
choice_sound ss Pass is = refl
choice_sound ss (Use id skip) is = rw is.got is.fits
