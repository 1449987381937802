-- Lists that are the same from a place on.
use Rattle.std.proofs.Common.{◌≡◌, ℕ, zero, suc, ◌+◌, ◌-◌, ◌≤◌, List, [], ◌∷◌, length, get_or, map, take, drop, refl, ap, sym, ◌∙◌, arith}
use Rattle.std.proofs.lemmas.List.{drop-drop, get_or-drop, take-take}
use Rattle.capcrypt.specs.Devices.{DeviceNow, operations_of}

pub same_behind : {X : Type 0} (i : ℕ) (xs ys : List X) → drop i xs ≡ drop i ys → (x : X) → get_or xs i x ≡ get_or ys i x
same_behind i xs ys same x =
    let at : i + 0 ≡ i = omega arith in
    ap (λ (n : ℕ). get_or xs n x) (sym at) ∙ sym (get_or-drop i xs 0 x) ∙ ap (λ l. get_or l 0 x) same ∙ get_or-drop i ys 0 x ∙ ap (λ (n : ℕ). get_or ys n x) at

pub further_behind : {X : Type 0} (n w : ℕ) (xs ys : List X) → n ≤ w → drop n xs ≡ drop n ys → drop w xs ≡ drop w ys
further_behind n w xs ys few same =
    let at : n + (w - n) ≡ w = omega (arith, few) in
    ap (λ (k : ℕ). drop k xs) (sym at) ∙ sym (drop-drop (w - n) n xs) ∙ ap (drop (w - n)) same ∙ drop-drop (w - n) n ys ∙ ap (λ (k : ℕ). drop k ys) at

-- the first counts of devices, out of a list that begins with all of them
pub first_counts : {D : Type 0} (f : D → DeviceNow) (k : ℕ) (devs : List D) (counts : List ℕ) → k ≤ length devs → take (length devs) counts ≡ map (λ d. (f d).enqueued) devs
    → take k counts ≡ operations_of k (map f devs)
first_counts f k devs counts few all = sym (take-take k (length devs) counts few) ∙ ap (take k) all ∙ sym (counted f k devs)
  where
    counted : {D : Type 0} (f : D → DeviceNow) (k : ℕ) (devs : List D) → operations_of k (map f devs) ≡ take k (map (λ d. (f d).enqueued) devs)
    counted f zero devs = refl
    counted f (suc k) [] = refl
    counted f (suc k) (d ∷ devs) = ap (λ l. (f d).enqueued ∷ l) (counted f k devs)
