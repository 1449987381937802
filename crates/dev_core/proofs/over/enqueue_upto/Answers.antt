use Rattle.std.proofs.Common.{◌≡◌, ◌≤◌, ◌∙◌, ap, arith, map, refl, Some}
use Rattle.dev_core.specs.Burst.{front_log}
use Rattle.dev_core.proofs.Fewer.{cuts_after-least, least-min, min-least, within-limit}
use Rattle.dev_core.proofs.Logged.{front_log-take, length-front_log, lens-front_log}
use Rattle.dev_core.proofs.over.enqueue_upto.Goals as goal

pub returns-clause-upto : goal.returns-clause-upto
returns-clause-upto g c limit e =
    let burst = c.args.burst.now in
    let max = c.args.max in
    let could = c.admitted-could.result in
    let n = c.enqueue_burst-n.result in
    let admits = g.D.Driver.admits c.args.over.now.inner in
    let all : admits (map (λ e. e.data_len) (front_log max burst)) ≡ Some could = ap admits (lens-front_log max burst) ∙ c.admitted-could.ensures.all in
    let within : could ≤ max = omega (arith, c.admitted-could.ensures.offered) in
    let taken : n ≤ c.args.most = omega (arith, c.enqueue_burst-n.ensures.offered) in
    record {
      exact = λ a is. (let same : a ≡ could = cc in rw (c.count_cut-over.ensures, e, same) (cuts_after-least limit max could c.args.over.now.cuts within));
      limited = within-limit limit max n (omega (arith, e));
      inner_cause = λ a is less. (let same : a ≡ could = cc in
          c.enqueue_burst-n.ensures.cause _ (c.admitted-could.ensures.fewer c.args.most c.requires.below) (rw (e, min-least limit max could within, ← same) less));
      inner_stalls = c.enqueue_burst-n.ensures.stalls;
      inner_stats = rw (c.enqueue_burst-n.ensures.stats, e, least-min, length-front_log) refl;
      inner_log = rw (c.enqueue_burst-n.ensures.log, front_log-take burst n max (omega arith)) refl;
    }
