use Rattle.std.proofs.Common.{rules, arith, ◌≡◌, ◌∙◌, ◌≤◌, ap, sym}
use Rattle.sched_core.proofs.Fields.{legal_or_usual}
use Rattle.sched_core.specs.Stopped.{is_threshold}
use Rattle.sched_core.proofs.text.finish.Goals as goal

pub returns-clause-schedulable : goal.returns-clause-schedulable
returns-clause-schedulable c = record {
  least = omega (arith, c.if-seen-least_workers.false, c.least_workers.ensures);
  most = omega (arith, c.if-most_workers-seen.false, c.most_workers.ensures);
  threshold = ap is_threshold c.unwrap_or-2.ensures ∙ legal_or_usual c.args.seen.now.threshold c.requires.threshold;
}
