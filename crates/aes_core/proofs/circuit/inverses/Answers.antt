use Rattle.std.proofs.Common.{refl, ◌∙◌}
use Rattle.crypto_model.proofs.Computed.{all_below}
use Rattle.std.specs.Int.RustNames.{count_ones}
use Rattle.crypto_model.specs.Field.{product, times, remainder}
use Rattle.aes_core.specs.Circuit.{chosen, raised, norm, inverse_norm}
use Rattle.aes_core.proofs.Wires.{gate_xor, gate_and, both_same, computed, wire_at}
use Rattle.aes_core.proofs.Bits.{told}
use Rattle.aes_core.proofs.circuit.inverses.Goals as goal

pub returns : goal.returns
unfolding all_below chosen count_ones raised norm inverse_norm product remainder times
returns c vs fits e =
    let t21 = wire_at 0 e ∙ computed _ (told 0x0aa0af059cc9396c6c39c99cfa505ff5396c9cc950faf55f5ff5fa50366393c6) vs fits refl in
    let t22 = wire_at 1 e ∙ computed _ (told 0x0fc399555599c30f55993cf00fc366aa0033695aa596ccff5a69ccffffcc695a) vs fits refl in
    let t23 = wire_at 2 e ∙ computed _ (told 0x12ded1e2e22edeed21ed1d2ed11d1221e22edeeded212e1d2ee2edde21ed1d2e) vs fits refl in
    let t24 = wire_at 3 e ∙ computed _ (told 0xe472d7beb1d88214d7be1b8d7debb1d84ed882eb1b72d74182ebb12728be1b72) vs fits refl in
    let t25 = gate_xor _ _ vs t21 t22 in
    let t26 = gate_and _ _ vs t21 t23 in
    let t27 = gate_xor _ _ vs t24 t26 in
    let t28 = gate_and _ _ vs t25 t27 in
    let t29 = gate_xor _ _ vs t28 t22 in
    let t30 = gate_xor _ _ vs t23 t24 in
    let t31 = gate_xor _ _ vs t22 t26 in
    let t32 = gate_and _ _ vs t31 t30 in
    let t33 = gate_xor _ _ vs t32 t24 in
    let t34 = gate_xor _ _ vs t23 t33 in
    let t35 = gate_xor _ _ vs t27 t33 in
    let t36 = gate_and _ _ vs t24 t35 in
    let t37 = gate_xor _ _ vs t36 t34 in
    let t38 = gate_xor _ _ vs t27 t36 in
    let t39 = gate_and _ _ vs t29 t38 in
    let t40 = gate_xor _ _ vs t25 t39 in
    both_same (t29 ∙ computed _ _ vs fits refl)
    (both_same (t33 ∙ computed _ _ vs fits refl)
    (both_same (t37 ∙ computed _ _ vs fits refl)
    (both_same (t40 ∙ computed _ _ vs fits refl)
    (refl))))
