use Rattle.std.proofs.Common.{refl, ◌∙◌}
use Rattle.crypto_model.proofs.Computed.{all_below}
use Rattle.std.specs.Int.RustNames.{count_ones}
use Rattle.crypto_model.specs.Field.{product, times, remainder}
use Rattle.aes_core.specs.Planes.{turned}
use Rattle.aes_core.specs.Circuit.{chosen, raised, norm, inverse_norm}
use Rattle.aes_core.proofs.Wires.{gate_xor, gate_and, both_same, computed, wire_at}
use Rattle.aes_core.proofs.Bits.{told, bare_bit, bare_bits}
use Rattle.aes_core.proofs.circuit.outputs.Goals as goal

pub returns : goal.returns
unfolding all_below chosen count_ones raised norm inverse_norm product remainder times turned
returns c vs fits e f =
    let x7 = wire_at 0 e in
    let y1 = wire_at 1 e in
    let y2 = wire_at 2 e in
    let y3 = wire_at 3 e in
    let y4 = wire_at 4 e in
    let y5 = wire_at 5 e in
    let y6 = wire_at 6 e in
    let y7 = wire_at 7 e in
    let y8 = wire_at 8 e in
    let y9 = wire_at 9 e in
    let y10 = wire_at 10 e in
    let y11 = wire_at 11 e in
    let y12 = wire_at 12 e in
    let y13 = wire_at 13 e in
    let y14 = wire_at 14 e in
    let y15 = wire_at 15 e in
    let y16 = wire_at 16 e in
    let y17 = wire_at 17 e in
    let t29 = wire_at 0 f ∙ computed _ (told 0x0ba18f4554c9596f64192cf0aa5047f328677d58f4d6fdff5e61dcd8f743634e) vs fits refl in
    let t33 = wire_at 1 f ∙ computed _ (told 0xe072d7eae048da75a3ae1f2df13991516eced6e9ff603f0186e2b58e21bf1b2e) vs fits refl in
    let t37 = wire_at 2 f ∙ computed _ (told 0xf6ac871c93fe049cd67b0b8f7ce6b3f88cf888cf1273d55daae9f87128721752) vs fits refl in
    let t40 = wire_at 3 f ∙ computed _ (told 0x07c3b150c918e20f19a9fd6c55833a2e113be9dba52c0cbd0bfceeffe9ecf99a) vs fits refl in
    let t41 = gate_xor _ _ vs t40 t37 in
    let t42 = gate_xor _ _ vs t29 t33 in
    let t43 = gate_xor _ _ vs t29 t40 in
    let t44 = gate_xor _ _ vs t33 t37 in
    let t45 = gate_xor _ _ vs t42 t41 in
    let z0 = gate_and _ _ vs t44 y15 in
    let z1 = gate_and _ _ vs t37 y6 in
    let z2 = gate_and _ _ vs t33 x7 in
    let z3 = gate_and _ _ vs t43 y16 in
    let z4 = gate_and _ _ vs t40 y1 in
    let z5 = gate_and _ _ vs t29 y7 in
    let z6 = gate_and _ _ vs t42 y11 in
    let z7 = gate_and _ _ vs t45 y17 in
    let z8 = gate_and _ _ vs t41 y10 in
    let z9 = gate_and _ _ vs t44 y12 in
    let z10 = gate_and _ _ vs t37 y3 in
    let z11 = gate_and _ _ vs t33 y4 in
    let z12 = gate_and _ _ vs t43 y13 in
    let z13 = gate_and _ _ vs t40 y5 in
    let z14 = gate_and _ _ vs t29 y2 in
    let z15 = gate_and _ _ vs t42 y9 in
    let z16 = gate_and _ _ vs t45 y14 in
    let z17 = gate_and _ _ vs t41 y8 in
    let t46 = gate_xor _ _ vs z15 z16 in
    let t47 = gate_xor _ _ vs z10 z11 in
    let t48 = gate_xor _ _ vs z5 z13 in
    let t49 = gate_xor _ _ vs z9 z10 in
    let t50 = gate_xor _ _ vs z2 z12 in
    let t51 = gate_xor _ _ vs z2 z5 in
    let t52 = gate_xor _ _ vs z7 z8 in
    let t53 = gate_xor _ _ vs z0 z3 in
    let t54 = gate_xor _ _ vs z6 z7 in
    let t55 = gate_xor _ _ vs z16 z17 in
    let t56 = gate_xor _ _ vs z12 t48 in
    let t57 = gate_xor _ _ vs t50 t53 in
    let t58 = gate_xor _ _ vs z4 t46 in
    let t59 = gate_xor _ _ vs z3 t54 in
    let t60 = gate_xor _ _ vs t46 t57 in
    let t61 = gate_xor _ _ vs z14 t57 in
    let t62 = gate_xor _ _ vs t52 t58 in
    let t63 = gate_xor _ _ vs t49 t58 in
    let t64 = gate_xor _ _ vs z4 t59 in
    let t65 = gate_xor _ _ vs t61 t62 in
    let t66 = gate_xor _ _ vs z1 t63 in
    let s0 = gate_xor _ _ vs t59 t63 in
    let s6 = gate_xor _ _ vs t56 t62 in
    let s7 = gate_xor _ _ vs t48 t60 in
    let t67 = gate_xor _ _ vs t64 t65 in
    let s3 = gate_xor _ _ vs t53 t66 in
    let s4 = gate_xor _ _ vs t51 t66 in
    let s5 = gate_xor _ _ vs t47 t65 in
    let s1 = gate_xor _ _ vs t64 s3 in
    let s2 = gate_xor _ _ vs t55 t67 in
    both_same (s7 ∙ computed _ (bare_bit 0) vs fits refl ∙ bare_bits 0 vs fits)
    (both_same (s6 ∙ computed _ (bare_bit 1) vs fits refl ∙ bare_bits 1 vs fits)
    (both_same (s5 ∙ computed _ (bare_bit 2) vs fits refl ∙ bare_bits 2 vs fits)
    (both_same (s4 ∙ computed _ (bare_bit 3) vs fits refl ∙ bare_bits 3 vs fits)
    (both_same (s3 ∙ computed _ (bare_bit 4) vs fits refl ∙ bare_bits 4 vs fits)
    (both_same (s2 ∙ computed _ (bare_bit 5) vs fits refl ∙ bare_bits 5 vs fits)
    (both_same (s1 ∙ computed _ (bare_bit 6) vs fits refl ∙ bare_bits 6 vs fits)
    (both_same (s0 ∙ computed _ (bare_bit 7) vs fits refl ∙ bare_bits 7 vs fits)
    (refl))))))))
