-- What a burst's operations are to a crew.
use Rattle.std.proofs.Common.{◌≡◌, ◌≢◌, ℕ, zero, suc, ◌<◌, ◌≤◌, List, [], ◌∷◌, length, map, take, Option, None, Some, inl, inr, refl, ap, ◌∙◌, arith, length-take}
use Rattle.std.proofs.lemmas.Bool.Decides.{eqb_tells}
use Rattle.std.proofs.lemmas.List.{length-map, take-map, take-take}
use Rattle.crypto_op.specs.declared.op.Op.{Op}
use Rattle.crypto_op.specs.Op.{data_len_of}
use Rattle.crypto_op.specs.Burst.{Burst}
use Rattle.dev_core.specs.Burst.{front_log, lens, log_entry, offered}
use Rattle.dev_core.specs.declared.driver.LogEntry.{LogEntry}
use Rattle.sched_core.proofs.Renumbered.{length_renumbered}
use Rattle.sched_modes.specs.Crew.{Places, free, lengths, only_for, told, total}

pub length_front_log : {C : Type 0} (n : ℕ) (b : Burst (Op C)) → length (front_log n b) ≡ offered n b
length_front_log n b = length-map (take n b.ops) log_entry ∙ length-take n b.ops

pub take_front_log : {C : Type 0} (n most : ℕ) (b : Burst (Op C)) → n ≤ most → take n (front_log most b) ≡ front_log n b
take_front_log n most b h = take-map log_entry n (take most b.ops) ∙ ap (map log_entry) (take-take n most b.ops h)

lengths_of : {C : Type 0} (ops : List (Op C)) → map (λ (o : Op C). data_len_of o.spec) ops ≡ lengths (map log_entry ops)
lengths_of [] = refl
lengths_of (o ∷ ops) = ap (λ l. data_len_of o.spec ∷ l) (lengths_of ops)

pub lens_is : {C : Type 0} (most : ℕ) (b : Burst (Op C)) → lens most b ≡ lengths (front_log most b)
lens_is most b = lengths_of (take most b.ops)

pub length_told : (o : Option Places) (es : List LogEntry) → length (told o es) ≡ length es
length_told None es = refl
length_told (Some p) es = length_renumbered p.next es

pub free_le : (o : Option Places) (n : ℕ) → free o n ≤ n
free_le None n = omega arith
free_le (Some p) n = omega arith

only_at : (t k : ℕ) (ops : List LogEntry) → k ≡ t → only_for t ops k ≡ ops
only_at t k ops e = elim (eqb_tells k t) [ inl i ↦ rw i.0 refl | inr f ↦ absurd (f.1 e) ]

only_off : (t k : ℕ) (ops : List LogEntry) → k ≢ t → only_for t ops k ≡ []
only_off t k ops e = elim (eqb_tells k t) [ inl i ↦ absurd (e i.1) | inr f ↦ rw f.0 refl ]

total_below : (size : List LogEntry → ℕ) → size [] ≡ 0 → (w t : ℕ) (ops : List LogEntry) → w ≤ t → total w (λ k. size (only_for t ops k)) ≡ 0
total_below size none zero t ops h = refl
total_below size none (suc w) t ops h =
    let r = total_below size none w t ops (omega (arith, h)) in
    let o = ap size (only_off t w ops (λ e. omega (arith, e, h))) in
    omega (arith, r, o, none)

-- one worker's part is all, by any measure of lists
pub total_at : (size : List LogEntry → ℕ) → size [] ≡ 0 → (w t : ℕ) (ops : List LogEntry) → t < w → total w (λ k. size (only_for t ops k)) ≡ size ops
total_at size none zero t ops h = absurd (omega (arith, h))
total_at size none (suc w) t ops h = elim (eqb_tells w t) [
  | inl i ↦ let o = ap size (only_at t w ops i.1) in let r = total_below size none w t ops (let e = i.1 in omega (arith, e)) in omega (arith, o, r)
  | inr f ↦
      let d = f.1 in
      let lt : t < w = omega (arith, h, d) in
      let o = ap size (only_off t w ops d) in
      let r = total_at size none w t ops lt in
      omega (arith, o, r, none)
]

pub total_only : (w t : ℕ) (ops : List LogEntry) → t < w → total w (λ k. length (only_for t ops k)) ≡ length ops
total_only w t ops h = total_at length refl w t ops h

pub total_same : (w : ℕ) (f g : ℕ → ℕ) → ((k : ℕ) → k < w → f k ≡ g k) → total w f ≡ total w g
total_same zero f g h = refl
total_same (suc w) f g h = let r = total_same w f g (λ k lt. h k (omega (arith, lt))) in omega (arith, r, h w (omega arith))
