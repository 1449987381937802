-- The rounds of the inverse cipher, counted down.
use Rattle.std.proofs.Common.{◌≡◌, ℕ, suc, ◌-◌, ◌<◌, ◌≤◌, List, refl, arith}
use Rattle.crypto_model.specs.Aes.{add_round_key, inverse_cipher_with, inverse_mix_columns, inverse_rounds, inverse_shift_rows, inverse_sub_bytes}

-- t is the state of the block s before the round with key i - 1 of n
abbrev pub IsBefore : List ℕ → ℕ → List ℕ → ℕ → List ℕ → Type 0
IsBefore w n s i t = t ≡ inverse_rounds w n s (n - i)

pub begins : (w s t : List ℕ) (n : ℕ) → t ≡ add_round_key w n s → IsBefore w n s n t
unfolding inverse_rounds
begins w s t n e =
    let none : n - n ≡ 0 = omega arith in
    rw none e

pub goes_on : (w s t u : List ℕ) (n i : ℕ) → 1 < i → i ≤ n → IsBefore w n s i t
    → u ≡ inverse_mix_columns (add_round_key w (i - 1) (inverse_sub_bytes (inverse_shift_rows t))) → IsBefore w n s (i - 1) u
unfolding inverse_rounds
goes_on w s t u n i above within e f =
    let more : n - (i - 1) ≡ suc (n - i) = omega arith in
    let key : n - 1 - (n - i) ≡ i - 1 = omega arith in
    rw (more, key, f, e) refl

pub ends : (w s t u : List ℕ) (n i : ℕ) → i ≡ 1 → IsBefore w n s i t → u ≡ add_round_key w 0 (inverse_sub_bytes (inverse_shift_rows t)) → u ≡ inverse_cipher_with w n s
unfolding inverse_cipher_with
ends w s t u n i last e f = rw (f, e, last) refl
