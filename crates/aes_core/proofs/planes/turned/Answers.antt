use Rattle.aes_core.proofs.Turns.{network}
use Rattle.aes_core.proofs.planes.turned.Goals as goal

pub returns : goal.returns
returns c =
    network c.args.v.now (c.told-v, c.are_vectors.ensures) _ _ _ _ _ _ _ _ _ _ _ _ _ _ _ _ _ _ _ _ _ _ _ _
    c.lower.ensures
    c.upper.ensures
    c.lower-2.ensures
    c.upper-2.ensures
    c.lower-3.ensures
    c.upper-3.ensures
    c.lower-4.ensures
    c.upper-4.ensures
    c.lower-5.ensures
    c.lower-6.ensures
    c.upper-5.ensures
    c.upper-6.ensures
    c.lower-7.ensures
    c.lower-8.ensures
    c.upper-7.ensures
    c.upper-8.ensures
    c.lower-9.ensures
    c.lower-10.ensures
    c.lower-11.ensures
    c.lower-12.ensures
    c.upper-9.ensures
    c.upper-10.ensures
    c.upper-11.ensures
    c.upper-12.ensures
