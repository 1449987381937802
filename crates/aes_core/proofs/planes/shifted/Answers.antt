use Rattle.std.proofs.Common.{refl}
use Rattle.aes_core.specs.Planes.{left_rows}
use Rattle.aes_core.proofs.Steps.{moved_is}
use Rattle.aes_core.proofs.planes.shifted.Goals as goal

pub returns : goal.returns
returns c =
    moved_is left_rows refl (λ g. refl) c.args.a.now (c.told-a, c.are_vectors.ensures) _ _ _ _ _ _ _ _
    c.left_rows.ensures c.left_rows-2.ensures c.left_rows-3.ensures c.left_rows-4.ensures c.left_rows-5.ensures c.left_rows-6.ensures c.left_rows-7.ensures c.left_rows-8.ensures
