use Rattle.std.proofs.Common.{◌≡◌, ℕ, suc, ◌+◌, ◌<◌, [], ◌∷◌, ◌++◌, length, map, set, take, ap, sym, ◌∙◌, arith}
use Rattle.std.proofs.Math.Seq.{take-suc-set}
use Rattle.std.proofs.lemmas.List.{length-set, map-append, take_more}
use Rattle.dev_core.specs.declared.stats.Stats.{Stats}
use Rattle.capcrypt.proofs.top.operations_of.Goals as goal

pub loop-i-preserved : goal.loop-i-preserved
loop-i-preserved g c =
    let i = c.loop-i.i in
    let ops = c.loop-i.operations in
    let devs = c.args.devs.now in
    let d = c.index-devs-i.result in
    let x = c.stats.result.enqueued in
    let inside : i < length ops = omega (arith, c.loop-i-test.true, c.requires, c.loop-i.invariant.count) in
    let next : i + 1 ≡ suc i = omega arith in
    let front = ap (λ (n : ℕ). take n (set ops i x)) next ∙ take-suc-set ops i x inside in
    let more = take_more devs i d c.loop-i-test.true in
    record {
      done = front ∙ ap (λ l. l ++ (x ∷ [])) c.loop-i.invariant.done
          ∙ ap (λ (s : Stats). map (λ y. (g.D.Driver.stats y).enqueued) (take i devs) ++ (s.enqueued ∷ [])) (c.stats.ensures ∙ ap g.D.Driver.stats c.index-devs-i.is)
          ∙ sym (map-append (λ y. (g.D.Driver.stats y).enqueued) (take i devs) _) ∙ ap (map (λ y. (g.D.Driver.stats y).enqueued)) (sym more);
      count = length-set ops i x ∙ c.loop-i.invariant.count;
    }
