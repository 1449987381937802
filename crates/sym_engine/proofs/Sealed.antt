-- What sealing and opening make of a packet.
use Rattle.std.proofs.Common.{◌≡◌, ℕ, List, length, take, true, false, refl, sym, ap, ◌∙◌, arith}
use Rattle.std.specs.Prelude.{Option, Some, None, bytes_eq}
use Rattle.crypto_model.specs.Aes.{cipher}
use Rattle.crypto_model.specs.Chain.{laid_at}
use Rattle.crypto_model.specs.Gcm.{gcm_tag, gcm_text}
use Rattle.crypto_model.specs.Process.{Aead, Work, bytes_in, digest_at, with_digest, worked}
use Rattle.crypto_model.specs.declared.plain.DigestPlace.{DigestPlace}
use Rattle.crypto_model.specs.declared.plain.DigestPlace.TheVariants.{Nowhere, InChain, OwnField}
use Rattle.crypto_model.specs.declared.plain.Dir.TheVariants.{Encrypt, Decrypt}
use Rattle.seg_list.specs.Buffer.{Buffer}
use Rattle.mbuf_chain.specs.Chain.{packet_of, with_packet}
use Rattle.crypto_op.specs.declared.spec.OpSpec.{OpSpec}
use Rattle.sym_engine.specs.Working.{input_for, place_ready, work_of, IsWritten}
use Rattle.sym_engine.proofs.Written.{digest_written, written_laid, written_twice}

-- a digest of as many bytes still has its place in a packet that is as long
pub place_kept : (n m : ℕ) (p q : List ℕ) (place : DigestPlace) → n ≡ m → length q ≡ length p → place_ready m p place → place_ready n q place
place_kept n m p q Nowhere e f h = h
place_kept n m p q OwnField e f h = tt
place_kept n m p q (InChain at) e f h = omega (arith, e, f, h)

-- a range of a packet, encrypted or decrypted
abbrev pub text_at : OpSpec → List ℕ → List ℕ → List Buffer → List ℕ
text_at spec key iv c = gcm_text (cipher key) iv (bytes_in spec.cipher (packet_of c))

-- the data as it is, and encrypted or decrypted
abbrev pub data_of : OpSpec → List Buffer → List ℕ
data_of spec c = bytes_in spec.cipher (packet_of c)

abbrev pub turned : List ℕ → OpSpec → List Buffer → List ℕ
turned key spec c = text_at spec key spec.iv c

pub sealed : (spec : OpSpec) (p key : List ℕ) (n aad_len : ℕ) (c d e : List Buffer) (digest after code tag : List ℕ)
    → d ≡ with_packet c (laid_at spec.cipher.off (turned key spec c) (packet_of c))
    → tag ≡ gcm_tag (cipher key) spec.iv spec.aad (turned key spec c)
    → code ≡ take n tag
    → e ≡ with_packet d (with_digest spec.place code (work_of d digest)).packet
    → after ≡ (with_digest spec.place code (work_of d digest)).digest
    → (worked (Aead Encrypt key n aad_len) (input_for spec p) (work_of c digest) ≡ Some (work_of e after)) × IsWritten c e
sealed spec p key n aad_len c d e digest after code tag text_is tag_is code_is chain_is after_is =
    let wanted = take n (gcm_tag (cipher key) spec.iv spec.aad (turned key spec c)) in
    let l = written_laid c d spec.cipher.off (turned key spec c) text_is in
    let g = digest_written spec.place code wanted d e digest after (code_is ∙ ap (take n) tag_is) chain_is after_is in (
      ap (λ (ys : List ℕ). let w : Work = record { packet = ys; digest = digest } in let o : Option Work = Some (with_digest spec.place wanted w) in o) (sym l.0)
          ∙ ap (λ (w : Work). let o : Option Work = Some w in o) g.0,
      written_twice c d e l.1 g.1,
    )

pub opened : (spec : OpSpec) (p key : List ℕ) (n aad_len : ℕ) (c d : List Buffer) (digest : List ℕ)
    → bytes_eq (digest_at spec.place n (work_of c digest)) (take n (gcm_tag (cipher key) spec.iv spec.aad (data_of spec c))) ≡ true
    → d ≡ with_packet c (laid_at spec.cipher.off (turned key spec c) (packet_of c))
    → (worked (Aead Decrypt key n aad_len) (input_for spec p) (work_of c digest) ≡ Some (work_of d digest)) × IsWritten c d
opened spec p key n aad_len c d digest holds text_is =
    let l = written_laid c d spec.cipher.off (turned key spec c) text_is in
    (rw holds (ap (λ (ys : List ℕ). let w : Work = record { packet = ys; digest = digest } in let o : Option Work = Some w in o) (sym l.0)), l.1)

pub forged : (spec : OpSpec) (p key : List ℕ) (n aad_len : ℕ) (c : List Buffer) (digest : List ℕ)
    → bytes_eq (digest_at spec.place n (work_of c digest)) (take n (gcm_tag (cipher key) spec.iv spec.aad (data_of spec c))) ≡ false
    → worked (Aead Decrypt key n aad_len) (input_for spec p) (work_of c digest) ≡ None
forged spec p key n aad_len c digest fails = rw fails refl

-- what is asked for, under the names that a call has for it
pub record Names (spec given : OpSpec) (key k iv : List ℕ) (c m : List Buffer) : Type 0 where
  pub spec_is : given ≡ spec
  pub key_is : k ≡ key
  pub iv_is : iv ≡ spec.iv
  pub chain_is : m ≡ c

pub same_text : (spec given : OpSpec) (key k iv : List ℕ) (c m : List Buffer) → Names spec given key k iv c m → text_at given k iv m ≡ turned key spec c
same_text spec given key k iv c m n =
    ap (λ (s : OpSpec). text_at s k iv m) n.spec_is ∙ ap (λ x. text_at spec x iv m) n.key_is
    ∙ ap (λ v. text_at spec key v m) n.iv_is ∙ ap (λ x. text_at spec key spec.iv x) n.chain_is

pub same_laid : (spec given : OpSpec) (key k iv : List ℕ) (c m d : List Buffer) → Names spec given key k iv c m
    → d ≡ with_packet m (laid_at given.cipher.off (text_at given k iv m) (packet_of m)) → d ≡ with_packet c (laid_at spec.cipher.off (turned key spec c) (packet_of c))
same_laid spec given key k iv c m d n is =
    is ∙ ap (λ ys. with_packet m (laid_at given.cipher.off ys (packet_of m))) (same_text spec given key k iv c m n)
    ∙ ap (λ (s : OpSpec). with_packet m (laid_at s.cipher.off (turned key spec c) (packet_of m))) n.spec_is
    ∙ ap (λ x. with_packet x (laid_at spec.cipher.off (turned key spec c) (packet_of x))) n.chain_is
