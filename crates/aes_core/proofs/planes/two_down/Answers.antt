use Rattle.std.proofs.lemmas.Simd.{pick_l_left}
use Rattle.aes_core.specs.Planes.{two_down}
use Rattle.aes_core.proofs.planes.two_down.Goals as goal

pub returns : goal.returns
returns c = pick_l_left 0 c.args.plane c.args.plane 32 two_down c.fits-plane.0 tt
