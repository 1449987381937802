-- A list of which the last item is taken.
use Rattle.std.proofs.Common.{◌≡◌, ℕ, ◌-◌, List, [], ◌∷◌, ◌++◌, length, take, drop, refl, sym, ap, ◌∙◌, arith, length-drop}
use Rattle.std.proofs.lemmas.List.{take-append-drop}

nothing : {X : Type 0} (xs : List X) → length xs ≡ 0 → xs ≡ []
nothing [] n = refl
nothing (x ∷ xs) n = absurd (omega (arith, n))

pub last_taken : {X : Type 0} (n : ℕ) (xs front behind : List X) (x : X) (ys : List X) → n ≡ length xs
    → front ≡ take (n - 1) xs → behind ≡ drop (n - 1) xs → behind ≡ x ∷ ys → xs ≡ front ++ x ∷ []
last_taken n xs front behind x ys all is rest taken =
    let one : length ys ≡ 0 = omega (arith, all, ap length (sym rest ∙ taken), length-drop (n - 1) xs) in
    sym (take-append-drop (n - 1) xs) ∙ ap (λ zs. zs ++ drop (n - 1) xs) (sym is) ∙ ap (λ zs. front ++ zs) (sym rest ∙ taken ∙ ap (λ zs. x ∷ zs) (nothing ys one))
