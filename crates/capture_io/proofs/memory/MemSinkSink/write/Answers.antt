use Rattle.std.proofs.Common.{inl, inr, refl, arith, rules}
use Rattle.capture_io.proofs.memory.MemSinkSink.write.Goals as goal
use Rattle.capture_io.proofs.memory.MemSinkSink.write.Goals.{then-n-eq0-via-then-n-eq0, then-n-eq0-via-else-n-eq0+then-is_listed}

pub returns-then-n-eq0-clause-listed : goal.returns-then-n-eq0-clause-listed
returns-then-n-eq0-clause-listed c = (λ _. elim c.then-n-eq0.branch [ then-n-eq0-via-then-n-eq0 w ↦ inr (omega (arith, w.if-n-eq0.true, c.args.self.now.in_cap)) | then-n-eq0-via-else-n-eq0+then-is_listed w ↦ inl (search rules) ], λ _. refl)
