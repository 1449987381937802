use Rattle.std.proofs.Common.{refl}
use Rattle.aes_core.proofs.Steps.{added_is}
use Rattle.aes_core.proofs.planes.added.Goals as goal

pub returns : goal.returns
returns c = added_is c.args.a.now c.args.b.now _ c.told-a c.told-b refl
