use Rattle.std.proofs.Common.{zero, length-take, ◌++◌, replicate, ◌≡◌, ℕ, suc, ◌≤◌, ◌+◌, ◌-◌, ◌*◌, ◌/◌, List, length, take, drop, refl, ap, sym, ◌∙◌, arith, inl, inr}
use Rattle.std.proofs.lemmas.List.{length-replicate, take_all, take-take, take-append-le}
use Rattle.crypto_model.specs.Aes.{expanded, schedule, IsKeyLength}
use Rattle.crypto_model.proofs.Schedule.{schedule_more, take-put, length-put}
use Rattle.crypto_model.proofs.slow.expanded.Goals as goal

first_words : (key w v : List ℕ) → IsKeyLength (length key) → length w ≡ 240 → v ≡ take 0 w ++ key ++ drop (0 + length key) w
    → (length v ≡ 240) × (take (4 * (length key / 4)) v ≡ schedule key (length key / 4 - length key / 4))
unfolding schedule
first_words key w v h l e =
    let f : length key / 4 - length key / 4 ≡ 0 = omega arith in
    let g : 4 * (length key / 4) ≡ 0 + length key = elim h [ inl a ↦ omega arith | inr b ↦ elim b [ inl a ↦ omega arith | inr a ↦ omega arith ] ] in
    let i : length key ≤ 240 = elim h [ inl a ↦ omega arith | inr b ↦ elim b [ inl a ↦ omega arith | inr a ↦ omega arith ] ] in
    (rw e (length-put w key 0 (0 + length key) (omega arith) refl ∙ l), rw (f, g, e) (take-put w key 0 (0 + length key) (omega arith) refl))

pub words-init : goal.words-init
words-init g c = first_words c.args.key.now (replicate 240 0) c.put.new.list c.requires (length-replicate {A = ℕ} 240 0) c.put.ensures

pub words-preserved : goal.words-preserved
words-preserved g c = schedule_more c.args.key.now c.words.w _ c.next_word-word.result c.words.i (length c.args.key.now / 4) c.words.invariant refl (omega arith) (omega arith) c.next_word-word.ensures c.put-in-words.ensures

schedule_begins : (key : List ℕ) (n : ℕ) → take (length key) (schedule key n) ≡ key
unfolding schedule
schedule_begins key zero = take_all (length key) key (omega arith)
schedule_begins key (suc n) =
    let i = schedule_begins key n in
    let l : length key ≤ length (schedule key n) = omega (arith, ap length i, length-take (length key) (schedule key n)) in
    take-append-le (length key) (schedule key n) _ l ∙ i

is_expanded : (key w : List ℕ) (i : ℕ) → i ≡ 4 * (length key / 4 + 7) → take (4 * i) w ≡ schedule key (i - length key / 4) → take (16 * (length key / 4 + 6 + 1)) w ≡ expanded key
unfolding expanded
is_expanded key w i e held =
    let f : 16 * (length key / 4 + 6 + 1) ≡ 4 * i = omega arith in
    let g : 4 * (length key / 4 + 6 + 1) - length key / 4 ≡ i - length key / 4 = omega arith in
    rw (f, g) held

begins_with_key : (key w : List ℕ) (n : ℕ) → length key ≤ n → take n w ≡ expanded key → take (length key) w ≡ key
unfolding expanded
begins_with_key key w n l e = sym (take-take (length key) n w l) ∙ ap (λ (z : List ℕ). take (length key) z) e ∙ schedule_begins key _

pub returns-clause-schedule : goal.returns-clause-schedule
returns-clause-schedule g c = is_expanded c.args.key.now c.words.w c.words.i (omega arith) c.words.invariant.1

pub returns-clause-begins : goal.returns-clause-begins
returns-clause-begins g c = begins_with_key c.args.key.now c.words.w (16 * (length c.args.key.now / 4 + 6 + 1)) (omega arith) (is_expanded c.args.key.now c.words.w c.words.i (omega arith) c.words.invariant.1)
