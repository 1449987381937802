-- Log entries under a ring's numbers.
use Rattle.std.proofs.Common.{◌≡◌, ℕ, suc, ◌+◌, ◌%◌, ◌^◌, List, [], ◌∷◌, ◌++◌, length, refl, ap, ◌∙◌, arith, add-zero}
use Rattle.dev_core.specs.declared.driver.LogEntry.{LogEntry}
use Rattle.sched_core.specs.Logged.{renumbered}

-- numbers count modulo 2^64
pub renumbered-mod : (a b : ℕ) (es : List LogEntry) → a % 2 ^ 64 ≡ b % 2 ^ 64 → renumbered a es ≡ renumbered b es
renumbered-mod a b [] h = refl
renumbered-mod a b (e ∷ es) h =
    let next : (a + 1) % 2 ^ 64 ≡ (b + 1) % 2 ^ 64 = omega (arith, h) in
    ap (λ n. record e { pos = n } ∷ renumbered (a + 1) es) h ∙ ap (λ l. record e { pos = b % 2 ^ 64 } ∷ l) (renumbered-mod (a + 1) (b + 1) es next)

pub length_renumbered : (n : ℕ) (es : List LogEntry) → length (renumbered n es) ≡ length es
length_renumbered n [] = refl
length_renumbered n (e ∷ es) = ap suc (length_renumbered (n + 1) es)

pub renumbered-append : (n : ℕ) (xs ys : List LogEntry) → renumbered n (xs ++ ys) ≡ renumbered n xs ++ renumbered (n + length xs) ys
renumbered-append n [] ys = let e : n ≡ n + 0 = omega arith in ap (λ k. renumbered k ys) e
renumbered-append n (x ∷ xs) ys =
    let s : (n + 1) + length xs ≡ n + suc (length xs) = omega arith in
    ap (λ l. record x { pos = n % 2 ^ 64 } ∷ l) (renumbered-append (n + 1) xs ys ∙ ap (λ k. renumbered (n + 1) xs ++ renumbered k ys) s)
