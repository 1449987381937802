-- A piece that is taken in, and one behind another.
use Rattle.std.proofs.Common.{◌≡◌, ℕ, ◌≤◌, ◌+◌, ◌-◌, ◌%◌, ◌^◌, List, [], ◌++◌, length, take, drop, ap, sym, subst, ◌∙◌, arith, append_assoc, length-append}
use Rattle.std.proofs.lemmas.List.{drop-drop, append-nil}
use Rattle.std.proofs.lemmas.Slice.{take-put_mid, drop-put_mid}
use Rattle.std.proofs.Math.Seq.{take-add}
use borrow.Rule.Slice.PartMut.{put_mid}
use Rattle.crypto_model.specs.Aes.{cipher}
use Rattle.crypto_model.specs.Modes.{ctr}
use Rattle.crypto_model.specs.Gcm.{iv_block, gcm_text}
use Rattle.aes_modes.specs.Feeding as C
use Rattle.gcm_core.specs.declared.stream.KeyStream.{KeyStream}
use Rattle.gcm_core.specs.Streaming.{IsFed, Feeds}
use Rattle.gcm_core.proofs.KeyStreams.{iv_block-same}
use Rattle.gcm_core.proofs.IvCounters.{gcm_behind}

-- a piece that CTR takes in before its counter goes round
pub feeds_part : (a b : KeyStream) (part out : List ℕ) → b.key.now ≡ a.key.now → b.iv ≡ a.iv → b.left + length part ≡ a.left
    → ((key iv text : List ℕ) → C.IsFed key iv a.stream text
    → C.IsFed key iv b.stream (text ++ part) × (ctr (cipher key) iv (text ++ part) ≡ ctr (cipher key) iv text ++ out))
    → Feeds a b part out
feeds_part a b part out same same_iv room step key iv text f =
    let e = cipher key in
    let gone = f.gone in
    let here = f.here in
    let block = iv_block iv (2 + f.before) in
    let next = step key block here f.fed in
    let more = length-append here part in
    let parts : text ++ part ≡ gone ++ (here ++ part) = ap (λ (xs : List ℕ). xs ++ part) f.parts ∙ append_assoc gone here part in
    let now = gcm_behind key iv gone here f.before f.long f.bytes f.whole (omega (arith, f.room)) in
    let then = gcm_behind key iv gone (here ++ part) f.before f.long f.bytes f.whole (omega (arith, f.room, room, more)) in (
      record {
        gone = gone;
        before = f.before;
        here = here ++ part;
        same_key = same ∙ f.same_key;
        same_iv = same_iv ∙ f.same_iv;
        long = f.long;
        bytes = f.bytes;
        parts = parts;
        whole = f.whole;
        room = omega (arith, f.room, room, more);
        fed = next.0;
      },
      ap (gcm_text e iv) parts ∙ then ∙ ap (λ (xs : List ℕ). gcm_text e iv gone ++ xs) next.1
          ∙ sym (append_assoc (gcm_text e iv gone) (ctr e block here) out)
          ∙ ap (λ (xs : List ℕ). xs ++ out) (sym (ap (gcm_text e iv) f.parts ∙ now)),
    )

-- the counter goes round
pub feeds_round : (a b : KeyStream) → b.key.now ≡ a.key.now → b.iv ≡ a.iv → a.left ≡ 0 → b.left ≡ 2 ^ 36 → C.IsFed a.key.now (iv_block a.iv 0) b.stream [] → Feeds a b [] []
feeds_round a b same same_iv none all fresh key iv text f =
    let more = 2 ^ 32 - (2 + f.before) % 2 ^ 32 in
    let before = f.before + more in
    let again : iv_block iv 0 ≡ iv_block iv (2 + before) = iv_block-same iv 0 (2 + before) (omega arith) in
    let begun : C.IsFed key (iv_block iv 0) b.stream [] =
    subst (λ (v : List ℕ). C.IsFed key (iv_block v 0) b.stream []) f.same_iv (subst (λ (k : List ℕ). C.IsFed k (iv_block a.iv 0) b.stream []) f.same_key fresh) in (
      record {
        gone = f.gone ++ f.here;
        before = before;
        here = [];
        same_key = same ∙ f.same_key;
        same_iv = same_iv ∙ f.same_iv;
        long = f.long;
        bytes = f.bytes;
        parts = ap (λ (xs : List ℕ). xs ++ []) f.parts;
        whole = omega (arith, length-append f.gone f.here, f.whole, f.room, none);
        room = omega (arith, all);
        fed = subst (λ (v : List ℕ). C.IsFed key v b.stream []) again begun;
      },
      ap (gcm_text (cipher key) iv) (append-nil text) ∙ sym (append-nil (gcm_text (cipher key) iv text)),
    )

-- no bytes
pub feeds_none : (s : KeyStream) → Feeds s s [] []
feeds_none s key iv text fed =
    (subst (IsFed key iv s) (sym (append-nil text)) fed, ap (gcm_text (cipher key) iv) (append-nil text) ∙ sym (append-nil (gcm_text (cipher key) iv text)))

-- one piece behind another
pub feeds_both : (a b c : KeyStream) (first second out more : List ℕ) → Feeds a b first out → Feeds b c second more → Feeds a c (first ++ second) (out ++ more)
feeds_both a b c first second out more one two key iv text fed =
    let f = one key iv text fed in
    let g = two key iv (text ++ first) f.0 in
    let e = cipher key in (
      subst (IsFed key iv c) (append_assoc text first second) g.0,
      ap (gcm_text e iv) (sym (append_assoc text first second)) ∙ g.1 ∙ ap (λ (xs : List ℕ). xs ++ more) f.1 ∙ append_assoc (gcm_text e iv text) out more,
    )

-- a loop has taken in the bytes before at, and has come to none behind them
pub record IsFedUpto (a b : KeyStream) (old now : List ℕ) (at : ℕ) : Type 0 where
  pub rest : drop at now ≡ drop at old
  pub fed : Feeds a b (take at old) (take at now)

-- k bytes more
pub upto_more : (a b c : KeyStream) (old now out : List ℕ) (at end k : ℕ) → IsFedUpto a b old now at → at + k ≡ end → end ≤ length now
    → length out ≡ k → Feeds b c (take k (drop at now)) out → IsFedUpto a c old (put_mid at k now out) end
upto_more a b c old now out at end k before sum within long more =
    let taken : take at old ++ take k (drop at now) ≡ take end old =
    ap (λ (xs : List ℕ). take at old ++ take k xs) before.rest ∙ sym (take-add at k old) ∙ ap (λ (n : ℕ). take n old) sum in
    let given : take at now ++ out ≡ take end (put_mid at k now out) = sym (take-put_mid at k now out end (omega arith) (omega arith)) in
    record {
      rest = drop-put_mid at k now out end (omega arith) (omega arith) long
          ∙ ap (λ (n : ℕ). drop n now) (sym sum) ∙ sym (drop-drop k at now)
          ∙ ap (drop k) before.rest ∙ drop-drop k at old ∙ ap (λ (n : ℕ). drop n old) sum;
      fed = subst (λ (xs : List ℕ). Feeds a c xs (take end (put_mid at k now out))) taken
          (subst (λ (ys : List ℕ). Feeds a c (take at old ++ take k (drop at now)) ys) given
          (feeds_both a b c (take at old) (take k (drop at now)) (take at now) out before.fed more));
    }
