use Rattle.std.proofs.Common.{◌≡◌}
use Rattle.capcrypt.proofs.deal.attach_each.Given as goal

abbrev pub invariant-loop-i : goal.invariant-loop-i
invariant-loop-i g l = l.scheduler ≡ record l.fn.scheduler { workers = l._i }
