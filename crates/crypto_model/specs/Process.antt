-- What processing an operation gives, on the whole packet.
use Rattle.std.specs.Prelude.{ℕ, ◌+◌, ◌%◌, List, [], ◌∷◌, length, take, drop, Bool, true, false, cond, ◌&&◌, ◌||◌, nat_eq, nat_le, Option, None, Some, slice_get, bytes_eq}
use Rattle.std.specs.List.{list_all}
use Rattle.crypto_model.specs.Aes.{cipher, inverse_cipher}
use Rattle.crypto_model.specs.Modes.{ctr, cbc_encrypt, cbc_decrypt}
use Rattle.crypto_model.specs.Gcm.{gcm_text, gcm_tag}
use Rattle.crypto_model.specs.Hmac.{hmac_of}
use Rattle.crypto_model.specs.Chain.{laid_at}
use Rattle.crypto_model.specs.declared.plain.SessId.{SessId}
use Rattle.crypto_model.specs.declared.plain.Range.{Range}
use Rattle.crypto_model.specs.declared.plain.Hash.{Hash}
use Rattle.crypto_model.specs.declared.plain.DigestPlace.{DigestPlace}
use Rattle.crypto_model.specs.declared.plain.DigestPlace.TheVariants.{Nowhere, InChain, OwnField}
use Rattle.crypto_model.specs.declared.plain.Status.{Status}
use Rattle.crypto_model.specs.declared.plain.Status.TheVariants.{Success, InvalidSession, InvalidArgs, AuthFailed}
use Rattle.crypto_model.specs.declared.plain.CipherAlg.{CipherAlg}
use Rattle.crypto_model.specs.declared.plain.CipherAlg.TheVariants.{AesCbc, AesCtr}
use Rattle.crypto_model.specs.declared.plain.Dir.{Dir}
use Rattle.crypto_model.specs.declared.plain.Dir.TheVariants.{Encrypt, Decrypt}
use Rattle.crypto_model.specs.declared.plain.Act.{Act}
use Rattle.crypto_model.specs.declared.plain.Act.TheVariants.{Generate, Verify}

-- a transform: a cipher with its key; a code with its key and the length of its digest; or AES-GCM with its
-- key, the length of its tag and that of the data that is only authenticated
pub data Transform : Type 0 where
  Cipher : CipherAlg → Dir → List ℕ → Transform
  Auth : Hash → Act → List ℕ → ℕ → Transform
  Aead : Dir → List ℕ → ℕ → ℕ → Transform

pub record Input : Type 0 where
  pub session : SessId
  pub iv : List ℕ
  pub aad : List ℕ
  pub cipher : Range
  pub auth : Range
  pub place : DigestPlace
  pub digest : List ℕ
  pub packet : List ℕ

pub record Answer : Type 0 where
  pub status : Status
  pub packet : List ℕ
  pub digest : List ℕ

-- packet and digest field as they were
abbrev pub refused : Status → Input → Answer
refused status input = record { status = status; packet = input.packet; digest = input.digest }

abbrev pub bytes_in : Range → List ℕ → List ℕ
bytes_in r packet = take r.len (drop r.off packet)

-- ---- the checks

-- the range that a transform works on
abbrev pub range_of : Input → Transform → Range
range_of input (Cipher alg dir key) = input.cipher
range_of input (Auth hash act key n) = input.auth
range_of input (Aead dir key n aad_len) = input.cipher

-- n bytes from an offset on lie in a packet of so many
abbrev pub lies_in : ℕ → ℕ → ℕ → Bool
lies_in off n all = nat_le (off + n) all

-- two ranges share no byte
abbrev pub apart : ℕ → ℕ → ℕ → ℕ → Bool
apart off n at m = nat_le (off + n) at || (nat_le (at + m) off || (nat_eq n 0 || nat_eq m 0))

-- the range lies in the packet
abbrev pub range_lies : Input → Transform → Bool
range_lies input t = lies_in ((range_of input t).off) ((range_of input t).len) (length input.packet)

-- the IV has the cipher's length
abbrev pub iv_fits : Input → Transform → Bool
iv_fits input (Cipher alg dir key) = nat_eq (length input.iv) 16
iv_fits input (Auth hash act key n) = true
iv_fits input (Aead dir key n aad_len) = nat_eq (length input.iv) 12

-- the data that is only authenticated has the session's length
abbrev pub aad_fits : Input → Transform → Bool
aad_fits input (Cipher alg dir key) = true
aad_fits input (Auth hash act key n) = true
aad_fits input (Aead dir key n aad_len) = nat_eq (length input.aad) aad_len

-- CBC takes whole blocks
abbrev pub data_fits : Input → Transform → Bool
data_fits input (Cipher AesCbc dir key) = nat_eq (input.cipher.len % 16) 0
data_fits input (Cipher AesCtr dir key) = true
data_fits input (Auth hash act key n) = true
data_fits input (Aead dir key n aad_len) = true

-- n bytes at an offset share none with the range of a transform
abbrev pub digest_apart : Input → ℕ → ℕ → Transform → Bool
digest_apart input at n t = apart ((range_of input t).off) ((range_of input t).len) at n

-- a digest of n bytes has a place, and in the packet it is apart from each range that the session uses
abbrev pub place_holds : Input → List Transform → ℕ → DigestPlace → Bool
place_holds input session n Nowhere = false
place_holds input session n OwnField = true
place_holds input session n (InChain at) = lies_in at n (length input.packet)
    && list_all (digest_apart input at n) session

abbrev pub place_fits : Input → List Transform → Transform → Bool
place_fits input session (Cipher alg dir key) = true
place_fits input session (Auth hash act key n) = place_holds input session n input.place
place_fits input session (Aead dir key n aad_len) = place_holds input session n input.place

abbrev pub transform_fits : Input → List Transform → Transform → Bool
transform_fits input session t =
    range_lies input t && (iv_fits input t && (aad_fits input t && (data_fits input t && place_fits input session t)))

abbrev pub fits : Input → List Transform → Bool
fits input session = list_all (transform_fits input session) session

-- ---- the transforms, one after another on the whole packet

-- packet and digest field, as the transforms have made them so far
pub record Work : Type 0 where
  pub packet : List ℕ
  pub digest : List ℕ

abbrev pub crypted : CipherAlg → Dir → List ℕ → List ℕ → List ℕ → List ℕ
crypted AesCtr dir key iv text = ctr (cipher key) iv text
crypted AesCbc Encrypt key iv text = cbc_encrypt (cipher key) iv text
crypted AesCbc Decrypt key iv text = cbc_decrypt (inverse_cipher key) iv text

-- the packet with this in place of the data
abbrev pub with_data : Input → List ℕ → Work → Work
with_data input text w = record w { packet = laid_at input.cipher.off text w.packet }

-- the first n bytes at the digest's place
abbrev pub digest_at : DigestPlace → ℕ → Work → List ℕ
digest_at Nowhere n w = []
digest_at (InChain at) n w = take n (drop at w.packet)
digest_at OwnField n w = take n w.digest

-- a digest written there
abbrev pub with_digest : DigestPlace → List ℕ → Work → Work
with_digest Nowhere bytes w = w
with_digest (InChain at) bytes w = record w { packet = laid_at at bytes w.packet }
with_digest OwnField bytes w = record w { digest = laid_at 0 bytes w.digest }

-- the digest of a code, and the tag of GCM over a ciphertext
abbrev pub code_of : Hash → List ℕ → ℕ → Input → Work → List ℕ
code_of hash key n input w = take n (hmac_of hash key (bytes_in input.auth w.packet))

abbrev pub tag_of : List ℕ → ℕ → Input → List ℕ → List ℕ
tag_of key n input text = take n (gcm_tag (cipher key) input.iv input.aad text)

-- what follows where the first n bytes at the digest's place are these
abbrev pub verified : Input → ℕ → List ℕ → Work → Work → Option Work
verified input n digest w after = cond (bytes_eq (digest_at input.place n w) digest) (Some after) None

-- what a transform makes of it: nothing, where a digest isn't the computed one
abbrev pub worked : Transform → Input → Work → Option Work
worked (Cipher alg dir key) input w = Some (with_data input (crypted alg dir key input.iv (bytes_in input.cipher w.packet)) w)
worked (Auth hash Generate key n) input w = Some (with_digest input.place (code_of hash key n input w) w)
worked (Auth hash Verify key n) input w = verified input n (code_of hash key n input w) w w
worked (Aead Encrypt key n aad_len) input w =
    let text = gcm_text (cipher key) input.iv (bytes_in input.cipher w.packet) in
    Some (with_digest input.place (tag_of key n input text) (with_data input text w))
worked (Aead Decrypt key n aad_len) input w =
    let text = bytes_in input.cipher w.packet in
    verified input n (tag_of key n input text) w (with_data input (gcm_text (cipher key) input.iv text) w)

abbrev pub then_worked : Transform → Input → Option Work → Option Work
then_worked t input None = None
then_worked t input (Some w) = worked t input w

abbrev pub all_worked : List Transform → Input → Option Work → Option Work
all_worked [] input o = o
all_worked (t ∷ ts) input o = all_worked ts input (then_worked t input o)

-- ---- the answer

abbrev pub answer_with : Input → Option Work → Answer
answer_with input None = refused AuthFailed input
answer_with input (Some w) = record { status = Success; packet = w.packet; digest = w.digest }

abbrev pub answer_of : List Transform → Input → Answer
answer_of session input = cond (fits input session)
    (answer_with input (all_worked session input (Some (record { packet = input.packet; digest = input.digest }))))
    (refused InvalidArgs input)

abbrev pub answer_in : Option (List Transform) → Input → Answer
answer_in None input = refused InvalidSession input
answer_in (Some session) input = answer_of session input

unfoldable pub processed : List (List Transform) → Input → Answer
processed sessions input = answer_in (slice_get sessions input.session.0) input
