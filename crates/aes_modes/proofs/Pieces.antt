-- A piece that is taken in, and one behind another.
use Rattle.std.proofs.Common.{◌≡◌, ℕ, ◌<◌, ◌≤◌, ◌+◌, ◌-◌, ◌*◌, ◌%◌, ◌^◌, List, [], ◌∷◌, ◌++◌, length, take, drop, refl, ap, sym, subst, ◌∙◌, arith, append_assoc, length-append, length-take, length-drop}
use Rattle.std.proofs.lemmas.List.{drop-drop, append-nil, drop-append-le}
use Rattle.std.proofs.lemmas.Slice.{take-put_mid, drop-put_mid}
use Rattle.std.proofs.Math.Seq.{take-add, drop-append_seam}
use borrow.Rule.Slice.PartMut.{put_mid}
use Rattle.crypto_model.specs.Aes.{cipher}
use Rattle.crypto_model.specs.Modes.{xor_with, counter_of, ctr}
use Rattle.aes_modes.specs.declared.ctr.Ctr.{Ctr}
use Rattle.aes_modes.specs.Counters.{key_stream}
use Rattle.aes_modes.specs.Feeding.{unused, IsFed, Feeds}
use Rattle.aes_modes.proofs.XorLists.{append-xor_with, nothing-xor_with}
use Rattle.aes_modes.proofs.KeyStream.{length-cipher, key_stream-zero, length-key_stream, key_stream-add, ctr_is, counter_small}

-- the key stream that is left, and m blocks behind it, are laid over a piece
pub feeds : (a b : Ctr) (m : ℕ) (piece out : List ℕ) → b.key.now ≡ a.key.now → (a.counter < 2 ^ 128 → b.counter ≡ (a.counter + m) % 2 ^ 128)
    → length piece ≤ length (unused a) + 16 * m
    → unused b ≡ drop (length piece) (unused a ++ key_stream (cipher a.key.now) a.counter m)
    → out ≡ xor_with piece (unused a ++ key_stream (cipher a.key.now) a.counter m) → Feeds a b piece out
feeds a b m piece out same step fits left is key iv text fed =
    let e = cipher key in
    let t = counter_of iv in
    let n = fed.begun in
    let long : length (key_stream e t n) ≡ 16 * n = length-key_stream e (length-cipher key) t n in
    let more : key_stream e t (n + m) ≡ key_stream e t n ++ key_stream e a.counter m = rw (← fed.counter) at (key_stream-add e (length-cipher key) t n m (counter_small iv)) in
    let behind : drop (length text) (key_stream e t (n + m)) ≡ unused a ++ key_stream (cipher a.key.now) a.counter m =
    ap (drop (length text)) more ∙ drop-append-le (length text) (key_stream e t n) (key_stream e a.counter m) (omega (arith, fed.within))
    ∙ ap (λ (xs : List ℕ). xs ++ key_stream e a.counter m) (sym fed.left) ∙ ap (λ (k : List ℕ). unused a ++ key_stream (cipher k) a.counter m) (sym fed.same_key) in
    let room : length (unused a) ≡ 16 * n - length text = ap length fed.left ∙ length-drop (length text) (key_stream e t n) ∙ ap (λ (k : ℕ). k - length text) long in
    let within : length (text ++ piece) ≤ 16 * (n + m) = omega (arith, length-append text piece, fed.within) in (
      record {
        begun = n + m;
        same_key = same ∙ fed.same_key;
        counter = omega (arith, step (omega (arith, fed.counter)), fed.counter);
        within = within;
        left = left ∙ ap (drop (length piece)) (sym behind) ∙ drop-drop (length piece) (length text) (key_stream e t (n + m))
            ∙ ap (λ (k : ℕ). drop k (key_stream e t (n + m))) (omega (arith, length-append text piece));
      },
      ctr_is e (length-cipher key) iv (text ++ piece) (n + m) within ∙ append-xor_with text piece (key_stream e t (n + m))
          ∙ ap (λ (xs : List ℕ). xs ++ xor_with piece (drop (length text) (key_stream e t (n + m)))) (sym (ctr_is e (length-cipher key) iv text (n + m) (omega (arith, fed.within))))
          ∙ ap (λ (xs : List ℕ). ctr e iv text ++ xs) (ap (xor_with piece) behind ∙ sym is),
    )

-- a list with no element
empty : (xs : List ℕ) → length xs ≡ 0 → xs ≡ []
empty [] none = refl
empty (x ∷ xs) none = absurd (omega arith)

-- the begun blocks, where all their bytes are used
used_up : (s : Ctr) → s.used ≡ 64 → length s.stream ≡ 64 → unused s ≡ []
used_up s full long = empty (unused s) (omega (arith, length-drop s.used s.stream))

-- a piece that the key stream of the begun blocks is enough for
pub feeds_begun : (a b : Ctr) (piece out : List ℕ) → b.key.now ≡ a.key.now → b.counter ≡ a.counter → b.stream ≡ a.stream → b.used ≡ a.used + length piece
    → a.used + length piece ≤ length a.stream → out ≡ xor_with piece (unused a) → Feeds a b piece out
feeds_begun a b piece out same stays kept taken fits is =
    let none : unused a ++ key_stream (cipher a.key.now) a.counter 0 ≡ unused a = rw key_stream-zero (append-nil (unused a)) in
    feeds a b 0 piece out same (λ small. omega (arith, stays)) (omega (arith, length-drop a.used a.stream))
    (rw (none, kept, taken) (sym (drop-drop (length piece) a.used a.stream))) (rw none is)

-- m blocks with no key stream left before and behind them
pub feeds_whole : (a b : Ctr) (m : ℕ) (piece out : List ℕ) → b.key.now ≡ a.key.now → b.counter ≡ (a.counter + m) % 2 ^ 128
    → a.used ≡ 64 → length a.stream ≡ 64 → b.used ≡ 64 → length b.stream ≡ 64 → length piece ≡ 16 * m
    → out ≡ xor_with piece (key_stream (cipher a.key.now) a.counter m) → Feeds a b piece out
feeds_whole a b m piece out same step full long full' long' whole is =
    let e = cipher a.key.now in
    let none : unused a ≡ [] = used_up a full long in
    let all : drop (length piece) (key_stream e a.counter m) ≡ [] =
    empty (drop (length piece) (key_stream e a.counter m)) (omega (arith, length-drop (length piece) (key_stream e a.counter m), length-key_stream e (length-cipher a.key.now) a.counter m)) in
    feeds a b m piece out same (λ _. step) (omega arith) (used_up b full' long' ∙ sym (rw none all)) (rw none is)

-- what is written at the end of the begun blocks
pub end_written : (xs out : List ℕ) → length xs ≡ 64 → drop 48 (put_mid 48 16 xs out) ≡ out
end_written xs out long =
    let front : length (take 48 xs) ≡ 48 = omega (arith, length-take 48 xs, long) in
    let rest = drop 16 (drop 48 xs) in
    let none : rest ≡ [] = empty rest (omega (arith, length-drop 16 (drop 48 xs), length-drop 48 xs, long)) in
    (rw front at (drop-append_seam (take 48 xs) (out ++ rest))) ∙ ap (λ (r : List ℕ). out ++ r) none ∙ append-nil out

-- m new blocks of key stream, of which nothing is used
pub feeds_fresh : (a b : Ctr) (m : ℕ) → b.key.now ≡ a.key.now → b.counter ≡ (a.counter + m) % 2 ^ 128 → a.used ≡ 64 → length a.stream ≡ 64
    → unused b ≡ key_stream (cipher a.key.now) a.counter m → Feeds a b [] []
feeds_fresh a b m same step full long is =
    feeds a b m [] [] same (λ _. step) (omega arith) (rw (used_up a full long) is) (sym (nothing-xor_with (unused a ++ key_stream (cipher a.key.now) a.counter m)))

-- no bytes
pub feeds_none : (s : Ctr) → Feeds s s [] []
feeds_none s key iv text fed =
    (subst (IsFed key iv s) (sym (append-nil text)) fed, ap (ctr (cipher key) iv) (append-nil text) ∙ sym (append-nil (ctr (cipher key) iv text)))

-- an empty piece
pub feeds_nothing : (s : Ctr) (xs : List ℕ) → length xs ≡ 0 → Feeds s s xs xs
feeds_nothing s xs none = subst (λ (ys : List ℕ). Feeds s s ys ys) (sym (empty xs none)) (feeds_none s)

-- one piece behind another
pub feeds_both : (a b c : Ctr) (first second out more : List ℕ) → Feeds a b first out → Feeds b c second more → Feeds a c (first ++ second) (out ++ more)
feeds_both a b c first second out more one two key iv text fed =
    let f = one key iv text fed in
    let g = two key iv (text ++ first) f.0 in
    let e = cipher key in (
      subst (IsFed key iv c) (append_assoc text first second) g.0,
      ap (ctr e iv) (sym (append_assoc text first second)) ∙ g.1 ∙ ap (λ (xs : List ℕ). xs ++ more) f.1 ∙ append_assoc (ctr e iv text) out more,
    )

-- a piece in two parts
pub feeds_then : (a b c : Ctr) (whole first second out more : List ℕ) → whole ≡ first ++ second → Feeds a b first out → Feeds b c second more
    → Feeds a c whole (out ++ more)
feeds_then a b c whole first second out more parts one two =
    subst (λ (xs : List ℕ). Feeds a c xs (out ++ more)) (sym parts) (feeds_both a b c first second out more one two)

-- a loop has taken in the bytes before at, and has come to none behind them
pub record IsFedUpto (a b : Ctr) (old now : List ℕ) (at : ℕ) : Type 0 where
  pub rest : drop at now ≡ drop at old
  pub used_up : b.used ≡ 64
  pub fed : Feeds a b (take at old) (take at now)

-- k bytes more
pub upto_more : (a b c : Ctr) (old now out : List ℕ) (at end k : ℕ) → IsFedUpto a b old now at → at + k ≡ end → end ≤ length now → length now ≡ length old
    → length out ≡ k → c.used ≡ 64 → Feeds b c (take k (drop at now)) out → IsFedUpto a c old (put_mid at k now out) end
upto_more a b c old now out at end k before sum within same long full more =
    let taken : take at old ++ take k (drop at now) ≡ take end old =
    ap (λ (xs : List ℕ). take at old ++ take k xs) before.rest ∙ sym (take-add at k old) ∙ ap (λ (n : ℕ). take n old) sum in
    let given : take at now ++ out ≡ take end (put_mid at k now out) = sym (take-put_mid at k now out end (omega arith) (omega arith)) in
    record {
      rest = drop-put_mid at k now out end (omega arith) (omega arith) long
          ∙ ap (λ (n : ℕ). drop n now) (sym sum) ∙ sym (drop-drop k at now)
          ∙ ap (drop k) before.rest ∙ drop-drop k at old ∙ ap (λ (n : ℕ). drop n old) (omega arith);
      used_up = full;
      fed = subst (λ (xs : List ℕ). Feeds a c xs (take end (put_mid at k now out))) taken
          (subst (λ (ys : List ℕ). Feeds a c (take at old ++ take k (drop at now)) ys) given
          (feeds_both a b c (take at old) (take k (drop at now)) (take at now) out before.fed more));
    }
