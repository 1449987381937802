-- The bytes of a number, cut off one by one from the lowest on.
use Rattle.std.proofs.Common.{◌≡◌, ℕ, zero, suc, ◌+◌, ◌*◌, ◌/◌, ◌%◌, ◌^◌, List, [], ◌∷◌, refl, sym, ap, ◌∙◌, arith}
use native.Mathlib.Nat.{pow-suc, div-div-eq-div-mul}
use Rattle.std.specs.Int.{byte_at, bytes_high_first}

abbrev down : ℕ → ℕ → ℕ
down zero n = n
down (suc k) n = down k n / 256

abbrev pub cut_off : ℕ → ℕ → List ℕ
cut_off zero n = []
cut_off (suc k) n = down k n % 256 ∷ cut_off k n

down_is : (k n : ℕ) → down k n ≡ n / 256 ^ k
down_is zero n = omega arith
down_is (suc k) n = ap (λ m. m / 256) (down_is k n) ∙ div-div-eq-div-mul n (256 ^ k) 256 ∙ ap (λ m. n / m) (sym (pow-suc 256 k))

is_byte : (k n : ℕ) → down k n % 256 ≡ byte_at k n
is_byte zero n = refl
is_byte (suc k) n = ap (λ m. m % 256) (down_is (suc k) n)

pub cut_off_is : (k n : ℕ) → cut_off k n ≡ bytes_high_first k n
cut_off_is zero n = refl
cut_off_is (suc k) n = ap (λ b. b ∷ cut_off k n) (is_byte k n) ∙ ap (λ l. byte_at k n ∷ l) (cut_off_is k n)

pub joined : (n : ℕ) → n % 18446744073709551616 + 18446744073709551616 * (n / 18446744073709551616 + 0) ≡ n
joined n = omega arith
