use Rattle.aes_core.proofs.Turns.{lower_is}
use Rattle.aes_core.proofs.planes.lower.Goals as goal

pub returns : goal.returns
returns c = lower_is c.args.by c.args.mask c.args.a c.args.b c.fits-a.0 c.fits-b.0
