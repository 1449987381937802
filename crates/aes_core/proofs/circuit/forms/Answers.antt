use Rattle.std.proofs.Common.{refl, ◌∙◌}
use Rattle.crypto_model.proofs.Computed.{all_below}
use Rattle.std.specs.Int.RustNames.{count_ones}
use Rattle.aes_core.specs.Planes.{turned}
use Rattle.aes_core.specs.Circuit.{chosen}
use Rattle.aes_core.proofs.Wires.{gate_xor, both_same, computed, wire_at}
use Rattle.aes_core.proofs.circuit.forms.Goals as goal

pub returns : goal.returns
unfolding all_below chosen count_ones turned
returns c vs fits e =
    let x7 = wire_at 0 e in
    let x6 = wire_at 1 e in
    let x5 = wire_at 2 e in
    let x4 = wire_at 3 e in
    let x3 = wire_at 4 e in
    let x2 = wire_at 5 e in
    let x1 = wire_at 6 e in
    let x0 = wire_at 7 e in
    let y14 = gate_xor _ _ vs x3 x5 in
    let y13 = gate_xor _ _ vs x0 x6 in
    let y9 = gate_xor _ _ vs x0 x3 in
    let y8 = gate_xor _ _ vs x0 x5 in
    let t0 = gate_xor _ _ vs x1 x2 in
    let y1 = gate_xor _ _ vs t0 x7 in
    let y4 = gate_xor _ _ vs y1 x3 in
    let y12 = gate_xor _ _ vs y13 y14 in
    let y2 = gate_xor _ _ vs y1 x0 in
    let y5 = gate_xor _ _ vs y1 x6 in
    let y3 = gate_xor _ _ vs y5 y8 in
    let t1 = gate_xor _ _ vs x4 y12 in
    let y15 = gate_xor _ _ vs t1 x5 in
    let y20 = gate_xor _ _ vs t1 x1 in
    let y6 = gate_xor _ _ vs y15 x7 in
    let y10 = gate_xor _ _ vs y15 t0 in
    let y11 = gate_xor _ _ vs y20 y9 in
    let y7 = gate_xor _ _ vs x7 y11 in
    let y17 = gate_xor _ _ vs y10 y11 in
    let y19 = gate_xor _ _ vs y10 y8 in
    let y16 = gate_xor _ _ vs t0 y11 in
    let y21 = gate_xor _ _ vs y13 y16 in
    let y18 = gate_xor _ _ vs x0 y16 in
    both_same (x7 ∙ computed _ _ vs fits refl)
    (both_same (y1 ∙ computed _ _ vs fits refl)
    (both_same (y2 ∙ computed _ _ vs fits refl)
    (both_same (y3 ∙ computed _ _ vs fits refl)
    (both_same (y4 ∙ computed _ _ vs fits refl)
    (both_same (y5 ∙ computed _ _ vs fits refl)
    (both_same (y6 ∙ computed _ _ vs fits refl)
    (both_same (y7 ∙ computed _ _ vs fits refl)
    (both_same (y8 ∙ computed _ _ vs fits refl)
    (both_same (y9 ∙ computed _ _ vs fits refl)
    (both_same (y10 ∙ computed _ _ vs fits refl)
    (both_same (y11 ∙ computed _ _ vs fits refl)
    (both_same (y12 ∙ computed _ _ vs fits refl)
    (both_same (y13 ∙ computed _ _ vs fits refl)
    (both_same (y14 ∙ computed _ _ vs fits refl)
    (both_same (y15 ∙ computed _ _ vs fits refl)
    (both_same (y16 ∙ computed _ _ vs fits refl)
    (both_same (y17 ∙ computed _ _ vs fits refl)
    (both_same (y18 ∙ computed _ _ vs fits refl)
    (both_same (y19 ∙ computed _ _ vs fits refl)
    (both_same (y20 ∙ computed _ _ vs fits refl)
    (both_same (y21 ∙ computed _ _ vs fits refl)
    (refl))))))))))))))))))))))
