use Rattle.std.proofs.Common.{rules, ap, sym, ◌∙◌, ◌≡◌}
use Rattle.std.specs.Prelude.{slice_get}
use Rattle.flight_table.specs.declared.word.Phase.TheVariants.{Back}
use Rattle.sched_multicore.specs.Step.{IsBack, IsIdle}
use Rattle.sched_multicore.proofs.Helps.{looked_after, helped_after}
use Rattle.sched_multicore.proofs.Looks.{ok_map, err_map, busy_not_back}
use Rattle.sched_multicore.proofs.queue.McQp.help_back_at.Goals as goal

pub word_at-word-requires : goal.word_at-word-requires
word_at-word-requires g c =
    let y = c.is_away.ensures.yes c.if-not-is_away.false in
    (y.0, ap (λ z. slice_get z.places c.args.i) (sym c.self.view_is) ∙ y.1)

pub returns-clause-ok : goal.returns-clause-ok
returns-clause-ok g c =
    let back : c.word_at-word.result.phase ≡ Back = search (rules, c.ne.ensures, c.if-ne.false) in
    ok_map c.help_at.result _ _ c.help_at.ensures.ok (λ b e. helped_after IsIdle IsBack _ _ _ c.args.i c.word_at-word.result b c.word_at-word.ensures.looked back e)

pub returns-clause-err : goal.returns-clause-err
returns-clause-err g c = err_map c.help_at.result _ _ c.help_at.ensures.err (λ n e. (looked_after _ _ _ c.args.i c.word_at-word.result n c.word_at-word.ensures.looked e.0, busy_not_back n.phase e.1))
