-- The bytes of a run's records.
use Rattle.std.proofs.Common.{◌≡◌, ◌≤◌, ◌<◌, ◌+◌, ◌-◌, ◌==◌, ℕ, Bool, false, true≢false, zero, suc, List, [], ◌∷◌, ◌++◌, length, map, take, drop, get_or, refl, ap, sym, ◌∙◌, arith, length-append}
use Rattle.std.specs.List.{flat_map}
use Rattle.std.proofs.Math.Seq.{take-append_seam, drop-append_seam}
use Rattle.std.proofs.lemmas.List.{append-nil, map-append}
use Rattle.std.proofs.lemmas.List.Concat.{flat_map-append}
use Rattle.packet_flow.specs.declared.mark.Mark.{Mark}
use Rattle.packet_flow.specs.Marks.{mark_bytes, mark_len}

drop_none : {X : Type 0} (n : ℕ) → drop {A = X} n [] ≡ []
drop_none zero = refl
drop_none (suc n) = refl

pub first_item : {X : Type 0} (xs : List X) (x : X) → 0 < length xs → x ≡ get_or xs 0 x → xs ≡ x ∷ drop 1 xs
first_item [] x some is = absurd (omega (arith, some))
first_item (y ∷ ys) x some is = ap (λ (z : _). z ∷ ys) (sym is)

drop_more : {X : Type 0} (n k : ℕ) (xs : List X) → drop (n + k) xs ≡ drop k (drop n xs)
drop_more zero k xs = let none : 0 + k ≡ k = omega arith in ap (λ (i : ℕ). drop i xs) none
drop_more (suc n) k [] = drop_none (suc n + k) ∙ sym (ap (drop k) (drop_none (suc n)) ∙ drop_none k)
drop_more (suc n) k (x ∷ xs) =
    let more : suc n + k ≡ suc (n + k) = omega arith in
    ap (λ (i : ℕ). drop i (x ∷ xs)) more ∙ drop_more n k xs

pub drop_within : {X : Type 0} (n : ℕ) (xs more : List X) → n ≤ length xs → drop n (xs ++ more) ≡ drop n xs ++ more
drop_within zero xs more within = refl
drop_within (suc n) [] more within = absurd (omega (arith, within))
drop_within (suc n) (x ∷ xs) more within = drop_within n xs more (omega (arith, within))

pub length-drop_within : {X : Type 0} (n : ℕ) (xs : List X) → n ≤ length xs → n + length (drop n xs) ≡ length xs
length-drop_within zero xs within = omega arith
length-drop_within (suc n) [] within = absurd (omega (arith, within))
length-drop_within (suc n) (x ∷ xs) within = omega (arith, length-drop_within n xs (omega (arith, within)))

pub some_left : {X : Type 0} (xs : List X) (n : ℕ) → n ≡ length xs → (n == 0) ≡ false → 0 < length xs
some_left [] n is told = absurd (true≢false (sym (ap (λ (k : ℕ). k == 0) is) ∙ told))
some_left (x ∷ xs) n is told = omega arith

module _ (big : Bool) where
  abbrev pub text : List Mark → List ℕ
  text ms = flat_map (mark_bytes big) ms

  abbrev pub lens : List Mark → List ℕ
  lens ms = map (λ m. length (mark_bytes big m)) ms

  module _ (bytes : List ℕ) (from : ℕ) (m : Mark) (ms : List Mark) (within : from ≤ length bytes) (is : drop from bytes ≡ text (m ∷ ms)) (long : map mark_len (m ∷ ms) ≡ lens (m ∷ ms)) where
    pub len_is : m.len ≡ length (mark_bytes big m)
    len_is = cc

    pub lens_behind : map mark_len ms ≡ lens ms
    lens_behind = cc

    pub within_behind : from + m.len ≤ length bytes
    within_behind = omega (arith, length-drop_within from bytes within, ap length is, length-append (mark_bytes big m) (text ms), len_is)

    pub text_behind : drop (from + m.len) bytes ≡ text ms
    text_behind = drop_more from m.len bytes ∙ ap (drop m.len) is ∙ ap (λ (n : ℕ). drop n (mark_bytes big m ++ text ms)) len_is ∙ drop-append_seam (mark_bytes big m) (text ms)

    pub first_bytes : take m.len (drop from bytes) ≡ mark_bytes big m
    first_bytes = ap (take m.len) is ∙ ap (λ (n : ℕ). take n (mark_bytes big m ++ text ms)) len_is ∙ take-append_seam (mark_bytes big m) (text ms)

    pub first_part : (slice : List ℕ) → slice ≡ bytes → take (from + m.len - from) (drop from slice) ≡ mark_bytes big m
    first_part slice same =
        let n : from + m.len - from ≡ m.len = omega arith in
        ap (λ (k : ℕ). take k (drop from slice)) n ∙ ap (λ (l : List ℕ). take m.len (drop from l)) same ∙ first_bytes

  pub text_joined : (bytes bytes' : List ℕ) (from from' : ℕ) (ms ms' : List Mark) → from ≤ length bytes → drop from bytes ≡ text ms → drop from' bytes' ≡ text ms'
      → drop from (bytes ++ drop from' bytes') ≡ text (ms ++ ms')
  text_joined bytes bytes' from from' ms ms' within is is' =
      drop_within from bytes (drop from' bytes') within ∙ ap (λ (l : List ℕ). l ++ drop from' bytes') is ∙ ap (λ (l : List ℕ). text ms ++ l) is'
      ∙ sym (flat_map-append (mark_bytes big) ms ms')

  pub lens_joined : (ms ms' : List Mark) → map mark_len ms ≡ lens ms → map mark_len ms' ≡ lens ms' → map mark_len (ms ++ ms') ≡ lens (ms ++ ms')
  lens_joined ms ms' is is' =
      map-append mark_len ms ms' ∙ ap (λ (l : List ℕ). l ++ map mark_len ms') is ∙ ap (λ (l : List ℕ). lens ms ++ l) is' ∙ sym (map-append (λ (m : Mark). length (mark_bytes big m)) ms ms')

  pub text_one : (bytes : List ℕ) (m : Mark) → bytes ≡ mark_bytes big m → drop 0 bytes ≡ text (m ∷ [])
  text_one bytes m is = is ∙ sym (append-nil (mark_bytes big m))
