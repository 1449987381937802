-- The rounds in a loop.
use Rattle.std.proofs.Common.{◌≡◌, ℕ, suc, ◌+◌, ◌-◌, ◌*◌, ◌≤◌, List, map, take, drop, sym, ap, ◌∙◌, arith}
use Rattle.std.proofs.lemmas.List.{take-map, drop-map}
use Rattle.crypto_model.specs.Aes.{sub_bytes, shift_rows, mix_columns, add_round_key, rounds, cipher_with}
use Rattle.aes_core.specs.Basis.{back, back_key}
use Rattle.aes_core.proofs.Rows.{key_alone}

pub begins : (w block key y : List ℕ) → key ≡ take 16 (drop (16 * 0) w) → map back y ≡ add_round_key key 0 block → map back y ≡ rounds w block (1 - 1)
unfolding rounds
begins w block key y k e = e ∙ ap (λ (q : List ℕ). add_round_key q 0 block) k ∙ key_alone w block 0

pub inner_key : (w inner key : List ℕ) (r : ℕ) → map back_key inner ≡ w → key ≡ take 16 (drop (16 * r) inner) → map back_key key ≡ take 16 (drop (16 * r) w)
inner_key w inner key r e k =
    ap (map back_key) k ∙ sym (take-map back_key 16 (drop (16 * r) inner)) ∙ ap (take 16) (sym (drop-map back_key (16 * r) inner))
    ∙ ap (λ (q : List ℕ). take 16 (drop (16 * r) q)) e

pub round_more : (w block s : List ℕ) (r : ℕ) → 1 ≤ r → s ≡ rounds w block (r - 1) → add_round_key w r (mix_columns (shift_rows (sub_bytes s))) ≡ rounds w block (r + 1 - 1)
unfolding rounds
round_more w block s r l e =
    let f : suc (r - 1) ≡ r = omega arith in
    let g : suc (r - 1) ≡ r + 1 - 1 = omega arith in
    ap (λ (q : List ℕ). add_round_key w r (mix_columns (shift_rows (sub_bytes q)))) e
    ∙ ap (λ (i : ℕ). add_round_key w i (mix_columns (shift_rows (sub_bytes (rounds w block (r - 1)))))) (sym f)
    ∙ ap (λ (i : ℕ). rounds w block i) g

pub goes_on : (w inner block key y z : List ℕ) (r : ℕ) → 1 ≤ r → map back_key inner ≡ w → key ≡ take 16 (drop (16 * r) inner)
    → map back y ≡ rounds w block (r - 1) → map back z ≡ add_round_key (map back_key key) 0 (mix_columns (shift_rows (sub_bytes (map back y))))
    → map back z ≡ rounds w block (r + 1 - 1)
goes_on w inner block key y z r l e k h f =
    let s = mix_columns (shift_rows (sub_bytes (map back y))) in
    f ∙ ap (λ (q : List ℕ). add_round_key q 0 s) (inner_key w inner key r e k) ∙ key_alone w s r ∙ round_more w block (map back y) r l h

pub ends : (w block key y z : List ℕ) (r n : ℕ) → r ≡ n → key ≡ take 16 (drop (16 * n) w)
    → map back y ≡ rounds w block (r - 1) → z ≡ add_round_key key 0 (shift_rows (sub_bytes (map back y))) → z ≡ cipher_with w n block
unfolding cipher_with
ends w block key y z r n e k h f =
    f ∙ ap (λ (q : List ℕ). add_round_key q 0 (shift_rows (sub_bytes (map back y)))) k ∙ key_alone w _ n
    ∙ ap (λ (q : List ℕ). add_round_key w n (shift_rows (sub_bytes q))) (h ∙ ap (λ (i : ℕ). rounds w block (i - 1)) e)
