use Rattle.std.proofs.Common.{refl}
use Rattle.aes_core.proofs.Steps.{doubled_is}
use Rattle.aes_core.proofs.planes.doubled.Goals as goal

pub returns : goal.returns
returns c = doubled_is c.args.a.now _ (c.told-a, c.are_vectors.ensures) refl
