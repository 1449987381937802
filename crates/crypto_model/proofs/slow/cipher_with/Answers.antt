use Rattle.std.proofs.Common.{◌≡◌, ℕ, suc, ◌≤◌, ◌+◌, ◌-◌, List, refl, arith, subst}
use Rattle.crypto_model.specs.Aes.{add_round_key, cipher_with, mix_columns, rounds, shift_rows, sub_bytes}
use Rattle.crypto_model.proofs.slow.cipher_with.Goals as goal

pub rounds-init : goal.rounds-init
unfolding rounds
rounds-init c = c.add_round_key-s.ensures

round_more : (w b s : List ℕ) (r : ℕ) → 1 ≤ r → s ≡ rounds w b (r - 1) → add_round_key w r (mix_columns (shift_rows (sub_bytes s))) ≡ rounds w b r
unfolding rounds
round_more w b s r l e = let f : suc (r - 1) ≡ r = omega arith in subst (λ (k : ℕ). add_round_key w k (mix_columns (shift_rows (sub_bytes s))) ≡ rounds w b k) f (rw e refl)

pub rounds-preserved : goal.rounds-preserved
rounds-preserved c =
    let f : c.rounds.r + 1 - 1 ≡ c.rounds.r = omega arith in
    rw (c.add_round_key-s-in-rounds.ensures, c.mix_columns.ensures, c.shift_rows.ensures, c.sub_bytes.ensures, f)
    (round_more c.args.w.now c.args.block c.rounds.s c.rounds.r (omega arith) c.rounds.invariant)

pub returns : goal.returns
unfolding cipher_with
returns c =
    let f : c.rounds.r ≡ c.args.rounds = omega arith in
    rw (c.add_round_key.ensures, c.shift_rows-2.ensures, c.sub_bytes-2.ensures, c.rounds.invariant, f) refl
