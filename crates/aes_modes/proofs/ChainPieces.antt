-- A piece behind a text of whole blocks, and one behind another.
use Rattle.std.proofs.Common.{◌≡◌, ℕ, ◌≤◌, ◌+◌, ◌%◌, List, [], ◌++◌, length, take, drop, refl, ap, sym, subst, ◌∙◌, arith, length-append, length-drop}
use Rattle.std.proofs.lemmas.List.{drop-drop}
use Rattle.std.proofs.lemmas.Slice.{take-put_mid, drop-put_mid}
use Rattle.std.proofs.Math.Seq.{take-add}
use borrow.Rule.Slice.PartMut.{put_mid}
use Rattle.crypto_model.specs.Aes.{cipher, inverse_cipher}
use Rattle.crypto_model.specs.Modes.{xor_with, cbc_encrypt, cbc_decrypt}
use Rattle.aes_modes.specs.declared.cbc.CbcEnc.{CbcEnc}
use Rattle.aes_modes.specs.declared.cbc.CbcDec.{CbcDec}
use Rattle.aes_modes.specs.Chaining.{last_block, IsChained, IsUnchained, Chains, Unchains}
use Rattle.aes_modes.proofs.KeyStream.{length-cipher}
use Rattle.aes_modes.proofs.CbcBlocks.{last_block-none, last_block-append, encrypt-none, encrypt-append, decrypt-none, decrypt-append, decrypt-four, last_block-four, xor_with-both}

-- no bytes
pub chains_none : (s : CbcEnc) → Chains s s [] []
chains_none s = record { same_key = refl; made = sym (encrypt-none (cipher s.key.now) s.last); last = sym (last_block-none s.last) }

pub unchains_none : (s : CbcDec) → Unchains s s [] []
unchains_none s = record { same_key = refl; made = sym (decrypt-none (inverse_cipher s.key.now) s.last); last = sym (last_block-none s.last) }

-- one piece behind another
pub chains_both : (a b c : CbcEnc) (first second out more : List ℕ) → length a.last ≡ 16 → length first % 16 ≡ 0
    → Chains a b first out → Chains b c second more → Chains a c (first ++ second) (out ++ more)
chains_both a b c first second out more wide whole one two =
    let e = cipher a.key.now in
    let last : b.last ≡ last_block a.last (cbc_encrypt e a.last first) = one.last ∙ ap (last_block a.last) one.made in
    let then : more ≡ cbc_encrypt e b.last second = two.made ∙ ap (λ (k : List ℕ). cbc_encrypt (cipher k) b.last second) one.same_key in
    record {
      same_key = two.same_key ∙ one.same_key;
      made = rw (one.made, then, last) (sym (encrypt-append e (length-cipher a.key.now) a.last first second wide whole));
      last = two.last ∙ ap (λ (x : List ℕ). last_block x more) one.last ∙ sym (last_block-append a.last out more);
    }

pub unchains_both : (a b c : CbcDec) (first second out more : List ℕ) → length a.last ≡ 16 → length first % 16 ≡ 0
    → Unchains a b first out → Unchains b c second more → Unchains a c (first ++ second) (out ++ more)
unchains_both a b c first second out more wide whole one two =
    let d = inverse_cipher a.key.now in
    let then : more ≡ cbc_decrypt d b.last second = two.made ∙ ap (λ (k : List ℕ). cbc_decrypt (inverse_cipher k) b.last second) one.same_key in
    record {
      same_key = two.same_key ∙ one.same_key;
      made = rw (one.made, then, one.last) (sym (decrypt-append d a.last first second wide whole));
      last = two.last ∙ ap (λ (x : List ℕ). last_block x second) one.last ∙ sym (last_block-append a.last first second);
    }

-- a piece behind any text
length-last_block : (c xs : List ℕ) → length (last_block c xs) ≡ length c
length-last_block c xs = omega (arith, length-drop (length xs) (c ++ xs), length-append c xs)

pub chained_more : (a b : CbcEnc) (piece out key iv text : List ℕ) → length a.last ≡ 16 → length piece % 16 ≡ 0 → Chains a b piece out → IsChained key iv a text
    → IsChained key iv b (text ++ piece) × (cbc_encrypt (cipher key) iv (text ++ piece) ≡ cbc_encrypt (cipher key) iv text ++ out)
chained_more a b piece out key iv text wide whole more before =
    let e = cipher key in
    let wide_iv : length iv ≡ 16 = sym (length-last_block iv (cbc_encrypt e iv text)) ∙ ap length (sym before.last) ∙ wide in
    let made : out ≡ cbc_encrypt e (last_block iv (cbc_encrypt e iv text)) piece = rw (before.same_key, before.last) at more.made in
    let all : cbc_encrypt e iv (text ++ piece) ≡ cbc_encrypt e iv text ++ out =
    encrypt-append e (length-cipher key) iv text piece wide_iv before.whole ∙ ap (λ (xs : List ℕ). cbc_encrypt e iv text ++ xs) (sym made) in (
      record {
        same_key = more.same_key ∙ before.same_key;
        whole = omega (arith, length-append text piece, whole, before.whole);
        last = more.last ∙ ap (λ (x : List ℕ). last_block x out) before.last ∙ sym (last_block-append iv (cbc_encrypt e iv text) out) ∙ ap (last_block iv) (sym all);
      },
      all,
    )

pub unchained_more : (a b : CbcDec) (piece out key iv text : List ℕ) → length a.last ≡ 16 → length piece % 16 ≡ 0 → Unchains a b piece out → IsUnchained key iv a text
    → IsUnchained key iv b (text ++ piece) × (cbc_decrypt (inverse_cipher key) iv (text ++ piece) ≡ cbc_decrypt (inverse_cipher key) iv text ++ out)
unchained_more a b piece out key iv text wide whole more before =
    let d = inverse_cipher key in
    let wide_iv : length iv ≡ 16 = sym (length-last_block iv text) ∙ ap length (sym before.last) ∙ wide in
    let made : out ≡ cbc_decrypt d (last_block iv text) piece = rw (before.same_key, before.last) at more.made in (
      record {
        same_key = more.same_key ∙ before.same_key;
        whole = omega (arith, length-append text piece, whole, before.whole);
        last = more.last ∙ ap (λ (x : List ℕ). last_block x piece) before.last ∙ sym (last_block-append iv text piece);
      },
      decrypt-append d iv text piece wide_iv before.whole ∙ ap (λ (xs : List ℕ). cbc_decrypt d iv text ++ xs) (sym made),
    )

-- a loop that changes k bytes at `at`: what it has come to, and what not
pub rest_after : (old now out : List ℕ) (at end k : ℕ) → drop at now ≡ drop at old → at + k ≡ end → end ≤ length now → length out ≡ k
    → drop end (put_mid at k now out) ≡ drop end old
rest_after old now out at end k rest sum within long =
    drop-put_mid at k now out end (omega arith) (omega arith) long
    ∙ ap (λ (n : ℕ). drop n now) (sym sum) ∙ sym (drop-drop k at now)
    ∙ ap (drop k) rest ∙ drop-drop k at old ∙ ap (λ (n : ℕ). drop n old) sum

pub come_to : (Takes : List ℕ → List ℕ → Type 0) (old now out : List ℕ) (at end k : ℕ) → drop at now ≡ drop at old → at + k ≡ end → end ≤ length now → length out ≡ k
    → Takes (take at old ++ take k (drop at now)) (take at now ++ out) → Takes (take end old) (take end (put_mid at k now out))
come_to Takes old now out at end k rest sum within long more =
    let taken : take at old ++ take k (drop at now) ≡ take end old =
    ap (λ (xs : List ℕ). take at old ++ take k xs) rest ∙ sym (take-add at k old) ∙ ap (λ (n : ℕ). take n old) sum in
    let given : take at now ++ out ≡ take end (put_mid at k now out) = sym (take-put_mid at k now out end (omega arith) (omega arith)) in
    subst (λ (xs : List ℕ). Takes xs (take end (put_mid at k now out))) taken (subst (Takes (take at old ++ take k (drop at now))) given more)

-- a group of four blocks, each of which is decrypted by itself
pub unchains_group : (s t : CbcDec) (a b c x p q r o group out : List ℕ) → length s.last ≡ 16
    → length a ≡ 16 → length b ≡ 16 → length c ≡ 16 → length x ≡ 16 → length p ≡ 16 → length q ≡ 16 → length r ≡ 16
    → t.key.now ≡ s.key.now → t.last ≡ x → group ≡ (a ++ b) ++ (c ++ x)
    → p ≡ inverse_cipher s.key.now a → q ≡ inverse_cipher s.key.now b → r ≡ inverse_cipher s.key.now c → o ≡ inverse_cipher s.key.now x
    → out ≡ xor_with ((p ++ q) ++ (r ++ o)) ((s.last ++ a) ++ (b ++ c)) → Unchains s t group out
unchains_group s t a b c x p q r o group out wide one two three four first second third same kept is p_is q_is r_is o_is made =
    let d = inverse_cipher s.key.now in
    let parts : xor_with ((p ++ q) ++ (r ++ o)) ((s.last ++ a) ++ (b ++ c)) ≡ (xor_with p s.last ++ xor_with q a) ++ (xor_with r b ++ xor_with o c) =
    xor_with-both (p ++ q) (r ++ o) (s.last ++ a) (b ++ c) (omega (arith, length-append p q, length-append s.last a))
    ∙ rw (xor_with-both p q s.last a (first ∙ sym wide), xor_with-both r o b c (third ∙ sym two)) refl in
    record {
      same_key = same;
      made = made ∙ parts ∙ rw (p_is, q_is, r_is, o_is, is) (sym (decrypt-four d s.last a b c x wide one two three four));
      last = kept ∙ sym (ap (last_block s.last) is ∙ last_block-four s.last a b c x wide one two three four);
    }
