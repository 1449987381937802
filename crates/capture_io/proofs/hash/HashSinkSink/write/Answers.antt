use Rattle.std.proofs.Common.{ℕ, List, sym, subst}
use Rattle.std.proofs.Math.Logic.{∥∥₁_map}
use Rattle.sha2.specs.Hashers.{Holds256}
use Rattle.capture_io.proofs.hash.HashSinkSink.write.Goals as goal

pub invariant_of-self : goal.invariant_of-self
invariant_of-self c = record {
  holds = ∥∥₁_map c.args.self.now.holds (λ holds. subst (λ (m : List ℕ). Holds256 c.update.new.self m) (sym c.text_behind-text.ensures) (c.update.ensures c.args.self.now.text.numbers holds));
}
