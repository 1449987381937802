use Rattle.std.proofs.Common.{refl, ◌∙◌}
use Rattle.crypto_model.proofs.Computed.{all_below}
use Rattle.std.specs.Int.RustNames.{count_ones}
use Rattle.crypto_model.specs.Field.{product, times, remainder}
use Rattle.aes_core.specs.Circuit.{chosen, raised, norm}
use Rattle.aes_core.proofs.Wires.{gate_xor, gate_and, both_same, computed, wire_at}
use Rattle.aes_core.proofs.circuit.norms.Goals as goal

pub returns : goal.returns
unfolding all_below chosen count_ones raised norm product remainder times
returns c vs fits e =
    let x7 = wire_at 0 e in
    let y1 = wire_at 1 e in
    let y2 = wire_at 2 e in
    let y3 = wire_at 3 e in
    let y4 = wire_at 4 e in
    let y5 = wire_at 5 e in
    let y6 = wire_at 6 e in
    let y7 = wire_at 7 e in
    let y8 = wire_at 8 e in
    let y9 = wire_at 9 e in
    let y10 = wire_at 10 e in
    let y11 = wire_at 11 e in
    let y12 = wire_at 12 e in
    let y13 = wire_at 13 e in
    let y14 = wire_at 14 e in
    let y15 = wire_at 15 e in
    let y16 = wire_at 16 e in
    let y17 = wire_at 17 e in
    let y18 = wire_at 18 e in
    let y19 = wire_at 19 e in
    let y20 = wire_at 20 e in
    let y21 = wire_at 21 e in
    let t2 = gate_and _ _ vs y12 y15 in
    let t3 = gate_and _ _ vs y3 y6 in
    let t4 = gate_xor _ _ vs t3 t2 in
    let t5 = gate_and _ _ vs y4 x7 in
    let t6 = gate_xor _ _ vs t5 t2 in
    let t7 = gate_and _ _ vs y13 y16 in
    let t8 = gate_and _ _ vs y5 y1 in
    let t9 = gate_xor _ _ vs t8 t7 in
    let t10 = gate_and _ _ vs y2 y7 in
    let t11 = gate_xor _ _ vs t10 t7 in
    let t12 = gate_and _ _ vs y9 y11 in
    let t13 = gate_and _ _ vs y14 y17 in
    let t14 = gate_xor _ _ vs t13 t12 in
    let t15 = gate_and _ _ vs y8 y10 in
    let t16 = gate_xor _ _ vs t15 t12 in
    let t17 = gate_xor _ _ vs t4 t14 in
    let t18 = gate_xor _ _ vs t6 t16 in
    let t19 = gate_xor _ _ vs t9 t14 in
    let t20 = gate_xor _ _ vs t11 t16 in
    let t21 = gate_xor _ _ vs t17 y20 in
    let t22 = gate_xor _ _ vs t18 y19 in
    let t23 = gate_xor _ _ vs t19 y21 in
    let t24 = gate_xor _ _ vs t20 y18 in
    both_same (t21 ∙ computed _ _ vs fits refl)
    (both_same (t22 ∙ computed _ _ vs fits refl)
    (both_same (t23 ∙ computed _ _ vs fits refl)
    (both_same (t24 ∙ computed _ _ vs fits refl)
    (refl))))
