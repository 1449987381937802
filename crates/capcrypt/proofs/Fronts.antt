-- Texts that are written piece by piece.
use Rattle.std.proofs.Common.{◌≡◌, ℕ, suc, ◌+◌, ◌<◌, ◌≤◌, List, [], ◌∷◌, ◌++◌, length, take, drop, get_or, min, codes, decimal, ◌∙◌, refl, ap, sym, arith, append_assoc, length-take, Result, Ok, Err, OnOk, OnErr}
use Rattle.std.proofs.lemmas.List.{append-nil, take_all, take_min, take-append-le, take_more, take-append-drop}
use Rattle.std.proofs.Math.Seq.{take-append-add, drop-cons}
use Rattle.capcrypt.specs.Report.{device_lines}
use Rattle.capture_io.specs.Pieces.{AppendsPart}
use Rattle.capcrypt.specs.Ran.{AppendsFront}

-- a front of a piece, behind the pieces before it, is a front of the whole text
pub front_within : (a b rest whole old mid new : List ℕ) → whole ≡ a ++ (b ++ rest) → mid ≡ old ++ a → AppendsFront mid new b → AppendsFront old new whole
front_within a b rest whole old mid new is before front =
    let k = min front.0 (length b) in
    let fits : k ≤ length b = omega arith in
    let cut : take k (b ++ rest) ≡ take front.0 b = take-append-le k b rest fits ∙ take_min front.0 b in (
      length a + k,
      front.1 ∙ ap (λ (l : List ℕ). l ++ take front.0 b) before ∙ append_assoc old a (take front.0 b)
          ∙ ap (λ (l : List ℕ). old ++ l) (sym (ap (take (length a + k)) is ∙ take-append-add a (b ++ rest) k ∙ ap (λ (l : List ℕ). a ++ l) cut)),
    )

pub front_of_part : (old new bytes : List ℕ) → AppendsPart old new bytes → AppendsFront old new bytes
front_of_part old new bytes part = (part.0, part.2)

-- all of it
pub front_whole : (whole old new : List ℕ) → new ≡ old ++ whole → AppendsFront old new whole
front_whole whole old new is = (length whole, is ∙ ap (λ (l : List ℕ). old ++ l) (sym (take_all (length whole) whole (omega arith))))

abbrev pub device_line : ℕ → ℕ → List ℕ
device_line n m = codes "device " ++ decimal n ++ codes " operations=" ++ decimal m ++ codes "\n"

pub device_lines-append : (n : ℕ) (ms more : List ℕ) → device_lines n (ms ++ more) ≡ device_lines n ms ++ device_lines (n + length ms) more
device_lines-append n [] more = ap (λ (k : ℕ). device_lines k more) (omega arith)
device_lines-append n (m ∷ ms) more =
    ap (λ (l : List ℕ). device_line n m ++ l) (device_lines-append (n + 1) ms more ∙ ap (λ (k : ℕ). device_lines (n + 1) ms ++ device_lines k more) (omega arith))
    ∙ sym (append_assoc (device_line n m) (device_lines (n + 1) ms) (device_lines (n + length (m ∷ ms)) more))

module _ (ms : List ℕ) (n m : ℕ) (below : n < length ms) (is : m ≡ get_or ms n 0) where
  at_n : 0 + length (take n ms) ≡ n
  at_n = omega (arith, length-take n ms)

  pub lines_more : device_lines 0 (take (n + 1) ms) ≡ device_lines 0 (take n ms) ++ device_line n m
  lines_more =
      ap (device_lines 0) (take_more ms n 0 below ∙ ap (λ (x : ℕ). take n ms ++ x ∷ []) (sym is)) ∙ device_lines-append 0 (take n ms) (m ∷ [])
      ∙ ap (λ (k : ℕ). device_lines 0 (take n ms) ++ (device_line k m ++ [])) at_n ∙ ap (λ (l : List ℕ). device_lines 0 (take n ms) ++ l) (append-nil (device_line n m))

  pub lines_split : device_lines 0 ms ≡ device_lines 0 (take n ms) ++ (device_line n m ++ device_lines (n + 1) (drop (suc n) ms))
  lines_split =
      ap (device_lines 0) (sym (take-append-drop n ms) ∙ ap (λ (l : List ℕ). take n ms ++ l) (drop-cons ms n 0 below ∙ ap (λ (x : ℕ). x ∷ drop (suc n) ms) (sym is)))
      ∙ device_lines-append 0 (take n ms) (m ∷ drop (suc n) ms) ∙ ap (λ (k : ℕ). device_lines 0 (take n ms) ++ (device_line k m ++ device_lines (k + 1) (drop (suc n) ms))) at_n

pub on_err_front : {T E : Type 0} (r : Result T E) (old new whole : List ℕ) → AppendsFront old new whole → OnErr r (AppendsFront old new whole)
on_err_front (Ok x) old new whole front = tt
on_err_front (Err e) old new whole front = front

pub on_ok_from : {T E P : Type 0} (r : Result T E) → P → OnOk r P
on_ok_from (Ok x) p = p
on_ok_from (Err e) p = tt

pub on_ok_map : {T E P Q : Type 0} (r : Result T E) → (P → Q) → OnOk r P → OnOk r Q
on_ok_map (Ok x) f p = f p
on_ok_map (Err e) f p = tt

pub on_err_map : {T E P Q : Type 0} (r : Result T E) → (P → Q) → OnErr r P → OnErr r Q
on_err_map (Ok x) f p = tt
on_err_map (Err e) f p = f p

-- two pieces
module _ (a b old new1 new2 : List ℕ) where
  pub first_failed : AppendsFront old new1 a → AppendsFront old new1 (a ++ b)
  first_failed front = front_within [] a b (a ++ b) old old new1 refl (sym (append-nil old)) front

  pub second_failed : new1 ≡ old ++ a → AppendsFront new1 new2 b → AppendsFront old new2 (a ++ b)
  second_failed one front = front_within a b [] (a ++ b) old new1 new2 (ap (λ (l : List ℕ). a ++ l) (sym (append-nil b))) one front

  pub both_written : new1 ≡ old ++ a → new2 ≡ new1 ++ b → new2 ≡ old ++ (a ++ b)
  both_written one two = two ∙ ap (λ (l : List ℕ). l ++ b) one ∙ append_assoc old a b
