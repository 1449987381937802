use Rattle.aes_core.proofs.Turns.{upper_is}
use Rattle.aes_core.proofs.planes.upper.Goals as goal

pub returns : goal.returns
returns c = upper_is c.args.by c.args.mask c.args.a c.args.b c.fits-a.0 c.fits-b.0
