-- The key schedule as it grows.
use Rattle.std.proofs.Common.{◌≡◌, ℕ, suc, ◌+◌, ◌-◌, ◌*◌, ◌/◌, ◌≤◌, List, ◌++◌, length, take, drop, arith, refl, ap, sym, ◌∙◌, length-append, length-drop, length-take}
use Rattle.std.proofs.lemmas.List.{take_at, length-take-le}
use Rattle.crypto_model.specs.Aes.{schedule, next_word, xor_words}
use Rattle.crypto_model.proofs.Listed.{length-listed}

pub take-put : (w ys : List ℕ) (a n : ℕ) → a ≤ length w → n ≡ a + length ys → take n (take a w ++ ys ++ drop n w) ≡ take a w ++ ys
take-put w ys a n fits e = take_at (take a w ++ ys) (drop n w) n (length-append (take a w) ys ∙ rw (length-take-le a w fits) (sym e))

pub length-put : (w ys : List ℕ) (a n : ℕ) → n ≤ length w → n ≡ a + length ys → length (take a w ++ ys ++ drop n w) ≡ length w
length-put w ys a n fits e = simp (length-append, length-drop, length-take) (omega arith)

pub schedule_more : (key w v ys : List ℕ) (i nk : ℕ) → (length w ≡ 240) × (take (4 * i) w ≡ schedule key (i - nk)) → nk ≡ length key / 4 → nk ≤ i → 4 * i + 4 ≤ 240
    → ys ≡ next_word nk (take (4 * i) w) i → v ≡ take (4 * i) w ++ ys ++ drop (4 * i + length ys) w
    → (length v ≡ 240) × (take (4 * (i + 1)) v ≡ schedule key (i + 1 - nk))
unfolding schedule next_word xor_words
schedule_more key w v ys i nk held e low fits y put =
    let l : length ys ≡ 4 = ap length y ∙ length-listed 4 _ in
    let f : i + 1 - nk ≡ suc (i - nk) = omega arith in
    let g : nk + (i - nk) ≡ i = omega arith in
    let n : 4 * (i + 1) ≡ 4 * i + length ys = omega arith in (
      rw put (length-put w ys (4 * i) (4 * i + length ys) (omega arith) refl ∙ held.0),
      rw (f, ← e, g, put, n) (take-put w ys (4 * i) (4 * i + length ys) (omega arith) refl ∙ rw (y, held.1) refl),
    )
