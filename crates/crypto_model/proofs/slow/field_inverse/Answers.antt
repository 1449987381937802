use Rattle.std.proofs.Common.{◌≡◌, ℕ, ◌∙◌, sym, refl, arith, ◌+◌, add-one, false}
use Rattle.std.specs.Prelude.{eqb}
use Rattle.crypto_model.specs.Field.{inverse, inverse_below, product}
use Rattle.crypto_model.proofs.slow.field_inverse.Goals as goal
use Rattle.crypto_model.proofs.slow.field_inverse.Goals.{then-field_product-eq1, else-field_product-eq1}

pub numbers-init : goal.numbers-init
unfolding inverse_below
numbers-init c = refl

found_more : (b n f : ℕ) → product b n ≡ 1 → f ≡ n → f ≡ inverse_below b (n + 1)
unfolding inverse_below
found_more b n f h e = rw (e, add-one, h) refl

other_more : (b n f g : ℕ) → (product b n ≡ 1 → ⊥) → g ≡ inverse_below b n → f ≡ g → f ≡ inverse_below b (n + 1)
unfolding inverse_below
other_more b n f g h i e = let x : eqb (product b n) 1 ≡ false = grind arith in rw (e, i, add-one, x) refl

pub numbers-preserved : goal.numbers-preserved
numbers-preserved c = elim c.if-field_product-eq1.branch [
  | then-field_product-eq1 w ↦ found_more c.args.b c.numbers.n _ (sym c.field_product.ensures ∙ w.if-field_product-eq1.true) w.found-is
  | else-field_product-eq1 w ↦ other_more c.args.b c.numbers.n _ _ (λ e. w.if-field_product-eq1.false (c.field_product.ensures ∙ e)) c.numbers.invariant w.found-is
]

pub returns : goal.returns
unfolding inverse
returns c = let e : c.numbers.n ≡ 256 = omega arith in rw e at c.numbers.invariant
