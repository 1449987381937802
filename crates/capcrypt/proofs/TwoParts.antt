-- A buffer whose two parts are written one after the other.
use Rattle.std.proofs.Common.{◌≡◌, ℕ, List, [], ◌∷◌, ◌++◌, length, take, drop, refl, ap, sym, ◌∙◌, arith, length-append, length-drop}
use Rattle.std.proofs.lemmas.List.{append-nil}
use Rattle.std.proofs.Math.Seq.{take-append_seam}
use borrow.Rule.Slice.PartMut.{put_mid}

pub nothing : (xs : List ℕ) → length xs ≡ 0 → xs ≡ []
nothing [] none = refl
nothing (x ∷ xs) none = absurd (omega arith)

pub two_parts : (n k : ℕ) (a rest b : List ℕ) → length a ≡ n → length rest ≡ k → put_mid n k (a ++ rest) b ≡ a ++ b
two_parts n k a rest b first old =
    let front : take n (a ++ rest) ≡ a = ap (λ (m : ℕ). take m (a ++ rest)) (sym first) ∙ take-append_seam a rest in
    let behind : drop k (drop n (a ++ rest)) ≡ [] = nothing (drop k (drop n (a ++ rest))) (omega (arith, length-drop k (drop n (a ++ rest)), length-drop n (a ++ rest), length-append a rest)) in
    rw (front, behind, append-nil) refl
