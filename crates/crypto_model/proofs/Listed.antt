-- A list that a loop has filled.
use Rattle.std.proofs.Common.{◌≡◌, ℕ, ◌<◌, ◌≤◌, List, length, slice_index, arith}
use Rattle.std.proofs.lemmas.List.FromFn.{fill_by_all, length-map-range_with_len, get_or-map-range_with_len}
use Rattle.crypto_model.specs.Aes.{listed}

pub listed_all : (n : ℕ) (f : ℕ → ℕ) (xs : List ℕ) (m : ℕ) → length xs ≡ n → ((k : ℕ) → k < m → slice_index xs k ≡ f k) → n ≤ m → xs ≡ listed n f
unfolding listed
listed_all n f xs m len at l = fill_by_all f xs n 0 len (λ k h. at k (omega arith))

pub length-listed : (n : ℕ) (f : ℕ → ℕ) → length (listed n f) ≡ n
unfolding listed
length-listed n f = length-map-range_with_len f 0 n

pub at-listed : (n : ℕ) (f : ℕ → ℕ) (k : ℕ) → k < n → slice_index (listed n f) k ≡ f k
unfolding listed
at-listed n f k h = get_or-map-range_with_len f 0 n k k 0 h (omega arith)
