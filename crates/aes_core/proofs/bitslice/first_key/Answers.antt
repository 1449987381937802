use Rattle.std.proofs.Common.{◌∙◌, ap}
use Rattle.std.proofs.Common.{bit_xor}
use Rattle.std.specs.Simd.Lanes.{zip2}
use Rattle.aes_core.specs.Planes.{turned}
use Rattle.aes_core.proofs.Turns.{AreVectors, turned_twice}
use Rattle.aes_core.proofs.Pairs.{first_is}
use Rattle.aes_core.proofs.bitslice.first_key.Goals as goal

pub returns : goal.returns
returns c k lk ek =
    let p = c.args.pairs.now in
    let v : AreVectors p = (c.told-pairs, c.are_vectors.ensures) in
    let e = ap turned c.turned.ensures ∙ turned_twice p v in
    first_is k p (turned c.args.key.now) _ lk v.0 v.1 ek (c.added.ensures ∙ ap (λ l. zip2 (zip2 bit_xor) l (turned c.args.key.now)) e)
