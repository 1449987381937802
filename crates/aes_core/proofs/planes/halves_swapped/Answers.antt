use Rattle.std.proofs.Common.{refl}
use Rattle.aes_core.specs.Planes.{two_down}
use Rattle.aes_core.proofs.Steps.{moved_is}
use Rattle.aes_core.proofs.planes.halves_swapped.Goals as goal

pub returns : goal.returns
returns c =
    moved_is two_down refl (λ g. refl) c.args.a.now (c.told-a, c.are_vectors.ensures) _ _ _ _ _ _ _ _
    c.two_down.ensures c.two_down-2.ensures c.two_down-3.ensures c.two_down-4.ensures c.two_down-5.ensures c.two_down-6.ensures c.two_down-7.ensures c.two_down-8.ensures
