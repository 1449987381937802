use Rattle.std.proofs.Math.Logic.{∥∥₁_elim}
use base.Stored.{Coded-set}
use Rattle.std.specs.Coded.{coded_list, coded_ℕ}
use Rattle.capture_io.proofs.hash.HashSink.finish.Goals as goal

pub returns : goal.returns
returns c = ∥∥₁_elim c.args.self.holds (Coded-set (coded_list coded_ℕ) _ _) (c.finalize.ensures c.args.self.text.numbers)
