use Rattle.std.proofs.Common.{sym}
use Rattle.aes_core.specs.Planes.{turned}
use Rattle.aes_core.proofs.Turns.{AreVectors, turned_twice}
use Rattle.aes_core.proofs.Steps.{made_of, bare_below, are_bytes, turned_vectors}
use Rattle.aes_core.proofs.circuit.substituted.Goals as goal

pub returns : goal.returns
returns c =
    let x = c.args.x.now in
    let vs = turned x in
    let v : AreVectors x = (c.told-x, c.are_vectors.ensures) in
    let fits = are_bytes vs (turned_vectors x v) in
    let y = c.forms-y.ensures vs fits (sym (turned_twice x v)) in
    let t = c.inverses.ensures vs fits (c.norms.ensures vs fits y) in
    made_of _ bare_below x _ v (c.outputs.ensures vs fits y t)
