use Rattle.std.proofs.lemmas.Simd.{pick_l_left}
use Rattle.aes_core.specs.Planes.{left_rows}
use Rattle.aes_core.proofs.planes.left_rows.Goals as goal

pub returns : goal.returns
returns c = pick_l_left 0 c.args.plane c.args.plane 32 left_rows c.fits-plane.0 tt
