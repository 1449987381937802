-- A key filled up to a block, and a block under a pad.
use Rattle.std.proofs.Common.{◌≡◌, ℕ, zero, suc, ◌<◌, ◌≤◌, ◌+◌, ◌-◌, List, [], ◌∷◌, ◌++◌, length, take, drop, map, bit_xor, replicate, refl, ap, sym, ◌∙◌, arith, true, false}
use Rattle.std.specs.Prelude.{nat_lt}
use Rattle.std.proofs.Math.Seq.{take-append-add}
use Rattle.std.proofs.lemmas.List.{take-replicate, drop-replicate}
use Rattle.std.proofs.lemmas.Bool.{lt-ltb, le-ltb}
use Rattle.crypto_model.specs.declared.plain.Hash.{Hash}
use Rattle.crypto_model.specs.declared.plain.Hash.TheVariants.{Sha224, Sha256, Sha384, Sha512}
use Rattle.crypto_model.specs.Hmac.{block_key, block_size, digest_size, filled, hash_of}
use Rattle.crypto_model.specs.Modes.{xor_with}
use Rattle.hmac_core.specs.States.{key_block}

-- a list before zeros: up to n, and behind n
take-zeros : (n m : ℕ) (k : List ℕ) → length k ≤ n → n ≤ m → take n (k ++ drop (length k) (replicate m 0)) ≡ k ++ replicate (n - length k) 0
take-zeros n m k h l =
    let e : length k + (n - length k) ≡ n = omega arith in
    let t = rw e at (take-append-add k (drop (length k) (replicate m 0)) (n - length k)) in
    let d : drop {A = ℕ} (length k) (replicate m 0) ≡ replicate (m - length k) 0 = drop-replicate (length k) m 0 in
    t ∙ rw d (ap (λ (z : List ℕ). k ++ z) (take-replicate (n - length k) (m - length k) 0 (omega arith)))

short-key : (hash : List ℕ → List ℕ) (size : ℕ) (key : List ℕ) → length key ≤ size → block_key hash size key ≡ key ++ replicate (size - length key) 0
unfolding block_key filled
short-key hash size key h = let f : nat_lt size (length key) ≡ false = le-ltb size (length key) h in rw f refl

long-key : (hash : List ℕ → List ℕ) (size : ℕ) (key : List ℕ) → size < length key → block_key hash size key ≡ hash key ++ replicate (size - length (hash key)) 0
unfolding block_key filled
long-key hash size key h = let f : nat_lt size (length key) ≡ true = lt-ltb size (length key) h in rw f refl

pub sizes : (hash : Hash) → (digest_size hash ≤ block_size hash) × (block_size hash ≤ 128)
sizes Sha224 = (omega arith, omega arith)
sizes Sha256 = (omega arith, omega arith)
sizes Sha384 = (omega arith, omega arith)
sizes Sha512 = (omega arith, omega arith)

pub short_key_filled : (hash : Hash) (key block : List ℕ) → length key ≤ block_size hash → block ≡ key ++ drop (length key) (replicate 128 0)
    → take (block_size hash) block ≡ key_block hash key
short_key_filled hash key block h e = rw e (take-zeros _ 128 key h (sizes hash).1 ∙ sym (short-key (hash_of hash) _ key h))

pub long_key_filled : (hash : Hash) (key digest block : List ℕ) → block_size hash < length key → digest ≡ hash_of hash key → length digest ≤ block_size hash
    → block ≡ digest ++ drop (length digest) (replicate 128 0) → take (block_size hash) block ≡ key_block hash key
long_key_filled hash key digest block h d l e =
    rw e (take-zeros _ 128 digest l (sizes hash).1 ∙ rw d (sym (long-key (hash_of hash) _ key h)))

-- the first bytes of a block under a pad
pub take-under : (pad n : ℕ) (block : List ℕ) → take n (map (λ byte. bit_xor byte pad) block) ≡ xor_with (take n block) (replicate n pad)
unfolding xor_with
take-under pad zero block = refl
take-under pad (suc n) [] = refl
take-under pad (suc n) (x ∷ xs) = ap (λ ys. bit_xor x pad ∷ ys) (take-under pad n xs)
