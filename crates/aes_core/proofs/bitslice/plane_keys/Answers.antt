use Rattle.std.proofs.Common.{refl, arith, ◌∙◌, ap, replicate, List, ℕ, ◌%◌}
use Rattle.aes_core.specs.Planes.{lifted}
use Rattle.aes_core.specs.Bitslice.{bit_of}
use Rattle.aes_core.proofs.Sliced.{flat, plane_more, all_planes}
use Rattle.aes_core.proofs.bitslice.plane_keys.Goals as goal

pub planes-init : goal.planes-init
unfolding flat
planes-init c = (refl, refl)

pub planes-preserved : goal.planes-preserved
planes-preserved c =
    plane_more c.args.words.now c.told-words c.fits-words c.planes.keys _ c.planes.i _ c.planes-test.true (omega arith) c.planes.invariant
    (c.bit_plane-plane.ensures ∙ ap (λ (v : List ℕ). lifted (bit_of (c.planes.i % 8)) (replicate 8 v)) c.wide_key.ensures)

pub returns : goal.returns
returns c = all_planes c.args.words.now c.told-words c.fits-words c.planes.keys c.planes.i c.planes-test.false c.planes.auto.i-end c.planes.invariant
