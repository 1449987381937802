-- The line of a session, printed and read again.
use Rattle.std.proofs.Common.{◌≡◌, ◌∙◌, ◌++◌, ℕ, Bool, List, [], ◌∷◌, length, true, false, true≢false, not, sym, ap, refl, Ok, Some, None, map, codes}
use Rattle.std.specs.Prelude.{is_none, nat_le, option_map, if◌then◌else◌}
use Rattle.std.specs.List.{flat_map, list_all, list_any}
use Rattle.crypto_model.specs.Process.{Transform}
use Rattle.crypto_model.specs.Session.{is_chain, key_fits, digest_fits, aad_len_fits}
use Rattle.sym_session.specs.declared.refusal.MakeRefused.TheVariants.{BadKeyLength, BadDigestLength, BadAadLength, BadChain}
use Rattle.sym_session.specs.Xform.{transform_of}
use Rattle.session_file.specs.declared.draft.Draft.{Draft}
use Rattle.session_file.specs.declared.plan.Named.{Named}
use Rattle.session_file.specs.declared.plan.Rule.{Rule}
use Rattle.session_file.specs.Value.{Word, is_name}
use Rattle.session_file.specs.Form.{PartWords, SessionWords, form_of}
use Rattle.session_file.specs.Fault.{has_good_salt, has_hexes, has_name, has_numbers, makes_session, part_salt, xform_of}
use Rattle.session_file.specs.Plan.{read_form, read_words}
use Rattle.session_file.specs.Spelling.{session_text, spaced}
use Rattle.session_file.proofs.Words.{IsWord-name, line_of}
use Rattle.session_file.proofs.Leads.{Leads, Leads-line}
use Rattle.session_file.proofs.Parts.{ArePrinted-parts, AreWords-parts, Shape, chain_again, chain_spelled, parts_words, printed_part, shape_of}

-- the draft of these sessions and rules, with no default yet
abbrev pub above : List Named → List Rule → Draft
above sessions rules = record { begun = true; sessions = sessions; rules = rules; otherwise = None }

last_of_four : (a b c d : Bool) → is_none (if not a then Some BadKeyLength else if not b then Some BadDigestLength else if not c then Some BadAadLength else if not d then Some BadChain else None) ≡ true
    → d ≡ true
last_of_four true true true true e = refl
last_of_four true true true false e = absurd (true≢false (sym e))
last_of_four true true false d e = absurd (true≢false (sym e))
last_of_four true false c d e = absurd (true≢false (sym e))
last_of_four false b c d e = absurd (true≢false (sym e))

shape_if : (parts : List PartWords) → makes_session (map xform_of parts) ≡ true → Shape parts
unfolding makes_session
shape_if parts e =
    let ts : List Transform = map transform_of (map xform_of parts) in
    shape_of parts (last_of_four (list_all key_fits ts) (list_all digest_fits ts) (list_all aad_len_fits ts) (is_chain ts) e)

-- a session line has none of its faults
pub record IsSession (sessions : List Named) (name : Word) (parts : List PartWords) : Type 0 where
  pub numbers : list_all has_numbers parts ≡ true
  pub hexes : list_all has_hexes parts ≡ true
  pub named : is_name name ≡ true
  pub own : list_any (has_name name) sessions ≡ false
  pub salted : list_all has_good_salt parts ≡ true
  pub made : makes_session (map xform_of parts) ≡ true
  pub few : nat_le 1024 (length sessions) ≡ false

abbrev pub session_of : Word → List PartWords → Named
session_of name parts = record { name = name; xforms = map xform_of parts; salt = flat_map part_salt parts }

spelled : (name : Word) (parts : List PartWords) → Shape parts
    → session_text (session_of name parts) ≡ line_of (codes "session") (name ∷ parts_words (map printed_part parts)) ++ 10 ∷ []
unfolding session_text
spelled name parts shape = ap (λ (x : List ℕ). codes "session" ++ spaced name ++ x ++ 10 ∷ []) (chain_spelled parts shape)

formed : (name : Word) (parts : List PartWords) → Shape parts
    → form_of (codes "session" ∷ name ∷ parts_words (map printed_part parts)) ≡ Some (SessionWords name (map printed_part parts))
unfolding form_of
formed name parts shape = ap (option_map (SessionWords name)) (chain_again parts shape)

read : (ss : List Named) (name : Word) (parts : List PartWords) → IsSession ss name parts
    → read_form (above ss []) (Some (SessionWords name (map printed_part parts))) ≡ Ok (above (ss ++ session_of name parts ∷ []) [])
read ss name parts is =
    let printed = ArePrinted-parts parts is.numbers is.hexes is.salted in
    rw (printed.numbers, printed.hexes, is.named, is.own, printed.salted, printed.same, is.made, is.few, printed.salt) refl

pub session_again : (ss : List Named) (name : Word) (parts : List PartWords) → IsSession ss name parts
    → Leads (above ss []) (session_text (session_of name parts)) (above (ss ++ session_of name parts ∷ []) [])
unfolding read_words
session_again ss name parts is =
    let shape = shape_if parts is.made in
    rw (spelled name parts shape)
    (Leads-line (above ss []) (above (ss ++ session_of name parts ∷ []) []) (codes "session") (name ∷ parts_words (map printed_part parts))
    (record { some = refl; plain = refl })
    (IsWord-name name is.named, AreWords-parts parts shape is.numbers is.hexes is.salted) refl
    (ap (read_form (above ss [])) (formed name parts shape) ∙ read ss name parts is))
