use Rattle.std.proofs.Common.{◌≡◌, ◌%◌, refl, arith, true, false}
use Rattle.std.specs.Prelude.{eqb}
use Rattle.std.proofs.lemmas.Bool.{eq-eqb}
use Rattle.crypto_model.specs.Aes.{temp}
use Rattle.crypto_model.proofs.slow.temp.Goals as goal
use Rattle.crypto_model.proofs.slow.temp.Goals.{else-nk-eq8-via-then-nk-eq8+else-i-eq4, else-nk-eq8-via-else-nk-eq8}

pub returns-then-i-nk-eq0 : goal.returns-then-i-nk-eq0
unfolding temp
returns-then-i-nk-eq0 g c =
    let a : eqb (c.args.i % c.args.nk) 0 ≡ true = eq-eqb _ _ c.if-i-nk-eq0.true in
    rw (c.xor_words.ensures, c.sub_word.ensures, c.rot_word.ensures, c.word_of-t.ensures, c.power.ensures, a) refl

pub returns-then-i-eq4 : goal.returns-then-i-eq4
unfolding temp
returns-then-i-eq4 g c =
    let a : eqb (c.args.i % c.args.nk) 0 ≡ false = grind arith in
    let b : eqb (c.args.i % 8) 4 ≡ true = eq-eqb _ _ c.if-i-eq4.true in
    let n : eqb c.args.nk 8 ≡ true = eq-eqb _ _ c.if-nk-eq8.true in
    rw (c.sub_word-then-i-eq4.ensures, c.word_of-t.ensures, a, b, n) refl

pub returns-else-nk-eq8 : goal.returns-else-nk-eq8
unfolding temp
returns-else-nk-eq8 g c =
    let a : eqb (c.args.i % c.args.nk) 0 ≡ false = grind arith in
    elim c.else-nk-eq8.branch [
      | else-nk-eq8-via-then-nk-eq8+else-i-eq4 w ↦
          let n : eqb c.args.nk 8 ≡ true = eq-eqb _ _ w.if-nk-eq8.true in
          let b : eqb (c.args.i % 8) 4 ≡ false = grind arith in
          rw (a, n, b) c.word_of-t.ensures
      | else-nk-eq8-via-else-nk-eq8 w ↦
          let n : eqb c.args.nk 8 ≡ false = grind arith in
          rw (a, n) c.word_of-t.ensures
    ]
