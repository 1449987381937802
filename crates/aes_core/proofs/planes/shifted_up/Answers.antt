use Rattle.std.proofs.Common.{refl}
use Rattle.aes_core.specs.Planes.{left_rows_up}
use Rattle.aes_core.proofs.Steps.{moved_is}
use Rattle.aes_core.proofs.planes.shifted_up.Goals as goal

pub returns : goal.returns
returns c =
    moved_is left_rows_up refl (λ g. refl) c.args.a.now (c.told-a, c.are_vectors.ensures) _ _ _ _ _ _ _ _
    c.left_rows_up.ensures c.left_rows_up-2.ensures c.left_rows_up-3.ensures c.left_rows_up-4.ensures c.left_rows_up-5.ensures c.left_rows_up-6.ensures c.left_rows_up-7.ensures c.left_rows_up-8.ensures
