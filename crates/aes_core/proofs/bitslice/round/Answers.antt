use Rattle.aes_core.specs.Planes.{turned}
use Rattle.aes_core.proofs.Turns.{AreVectors}
use Rattle.aes_core.proofs.Steps.{turned_vectors}
use Rattle.aes_core.proofs.Pairs.{round_is}
use Rattle.aes_core.proofs.bitslice.round.Goals as goal

pub returns : goal.returns
returns c k lk ek =
    let v : AreVectors c.args.state.now = (c.told-state, c.are_vectors.ensures) in
    let w = turned_vectors c.args.state.now v in
    round_is k (turned c.args.state.now) _ _ _ _ _ _ _ _ _ _ lk w.0 w.1 c.substituted-bytes.ensures c.shifted_up-below.ensures c.shifted.ensures c.added-sums.ensures
    c.halves_swapped.ensures c.added-rest.ensures ek c.added.ensures c.doubled.ensures c.added-2.ensures
