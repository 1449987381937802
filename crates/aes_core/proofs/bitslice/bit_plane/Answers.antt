use Rattle.std.proofs.lemmas.Simd.{below_from_Fits}
use Rattle.std.specs.Int.{w8}
use Rattle.aes_core.proofs.Sliced.{bit_plane_is}
use Rattle.aes_core.proofs.bitslice.bit_plane.Goals as goal

pub returns : goal.returns
returns c = bit_plane_is c.args.k c.args.key c.requires (c.fits-key.0, below_from_Fits w8 c.args.key c.fits-key.1)
