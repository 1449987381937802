-- Numbers of whole units.
use Rattle.std.proofs.Common.{◌≡◌, ℕ, ◌+◌, ◌-◌, ◌%◌, ◌<◌, ◌≤◌, inl, inr, sym, ap, ◌∙◌, arith}
use Rattle.std.proofs.Math.Nat.{add-mod-mod, mod-eq_of_lt}
use Rattle.std.proofs.lemmas.Bool.{cases_lt}

pub units_more : (done n u : ℕ) → done % u ≡ 0 → n % u ≡ 0 → (done + n) % u ≡ 0
units_more done n u d e = sym (add-mod-mod done n u) ∙ ap (λ k. (done + k) % u) e ∙ ap (λ k. k % u) (omega arith) ∙ d

pub units_left : (all done u : ℕ) → all % u ≡ 0 → done % u ≡ 0 → done ≤ all → (all - done) % u ≡ 0
units_left all done u a d within =
    let sum : all - done + done ≡ all = omega arith in
    let none : all - done + 0 ≡ all - done = omega arith in
    ap (λ k. k % u) (sym none) ∙ ap (λ k. (all - done + k) % u) (sym d) ∙ add-mod-mod (all - done) done u ∙ ap (λ k. k % u) sum ∙ a

pub unit_left : (n u : ℕ) → 0 < n → n % u ≡ 0 → u ≤ n
unit_left n u some e = elim (cases_lt n u) [ inl less ↦ absurd (omega (arith, mod-eq_of_lt less)) | inr more ↦ more ]
