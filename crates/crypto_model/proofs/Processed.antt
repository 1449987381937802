-- A packet keeps its length.
use Rattle.std.proofs.Common.{◌≡◌, ℕ, List, [], ◌∷◌, length, Bool, true, false, cond, Option, None, Some, slice_get, refl, ◌∙◌}
use Rattle.crypto_model.specs.declared.plain.Act.TheVariants.{Generate, Verify}
use Rattle.crypto_model.specs.declared.plain.Dir.TheVariants.{Encrypt, Decrypt}
use Rattle.crypto_model.specs.declared.plain.DigestPlace.{DigestPlace}
use Rattle.crypto_model.specs.declared.plain.DigestPlace.TheVariants.{Nowhere, InChain, OwnField}
use Rattle.crypto_model.specs.declared.plain.Status.TheVariants.{InvalidArgs}
use Rattle.crypto_model.specs.Process.{Transform, Cipher, Auth, Aead, Input, Answer, Work, refused, fits, with_digest, with_data, worked, then_worked, all_worked, answer_with, answer_in, processed}
use Rattle.crypto_model.proofs.Laid.{length-laid_at}

-- a packet of n bytes, where there is one
abbrev Keeps : ℕ → Option Work → Type 0
Keeps n None = Unit {0}
Keeps n (Some w) = length w.packet ≡ n

either : (n : ℕ) (b : Bool) (o p : Option Work) → Keeps n o → Keeps n p → Keeps n (cond b o p)
either n true o p is other = is
either n false o p is other = other

pub length-with_digest : (place : DigestPlace) (bytes : List ℕ) (w : Work) → length (with_digest place bytes w).packet ≡ length w.packet
length-with_digest Nowhere bytes w = refl
length-with_digest (InChain at) bytes w = length-laid_at at bytes w.packet
length-with_digest OwnField bytes w = refl

worked-keeps : (t : Transform) (input : Input) (n : ℕ) (w : Work) → length w.packet ≡ n → Keeps n (worked t input w)
worked-keeps (Cipher alg dir key) input n w is = length-laid_at input.cipher.off _ w.packet ∙ is
worked-keeps (Auth hash Generate key m) input n w is = length-with_digest input.place _ w ∙ is
worked-keeps (Auth hash Verify key m) input n w is = either n _ (Some w) None is tt
worked-keeps (Aead Encrypt key m aad_len) input n w is =
    length-with_digest input.place _ (with_data input _ w) ∙ length-laid_at input.cipher.off _ w.packet ∙ is
worked-keeps (Aead Decrypt key m aad_len) input n w is = either n _ (Some (with_data input _ w)) None (length-laid_at input.cipher.off _ w.packet ∙ is) tt

then-keeps : (t : Transform) (input : Input) (n : ℕ) (o : Option Work) → Keeps n o → Keeps n (then_worked t input o)
then-keeps t input n None is = tt
then-keeps t input n (Some w) is = worked-keeps t input n w is

all-keeps : (ts : List Transform) (input : Input) (n : ℕ) (o : Option Work) → Keeps n o → Keeps n (all_worked ts input o)
all-keeps [] input n o is = is
all-keeps (t ∷ ts) input n o is = all-keeps ts input n (then_worked t input o) (then-keeps t input n o is)

length-answer : (input : Input) (o : Option Work) → Keeps (length input.packet) o → length (answer_with input o).packet ≡ length input.packet
length-answer input None is = refl
length-answer input (Some w) is = is

length-cond : (b : Bool) (a : Answer) (input : Input) → length a.packet ≡ length input.packet → length (cond b a (refused InvalidArgs input)).packet ≡ length input.packet
length-cond true a input is = is
length-cond false a input is = refl

length-answer_in : (o : Option (List Transform)) (input : Input) → length (answer_in o input).packet ≡ length input.packet
length-answer_in None input = refl
length-answer_in (Some session) input =
    length-cond (fits input session) _ input
    (length-answer input _ (all-keeps session input (length input.packet) (Some (record { packet = input.packet; digest = input.digest })) refl))

pub length-processed : (sessions : List (List Transform)) (input : Input) → length (processed sessions input).packet ≡ length input.packet
unfolding processed
length-processed sessions input = length-answer_in (slice_get sessions input.session.0) input
