use Rattle.std.proofs.Common.{◌≡◌, ◌∙◌, ap, bit_xor, replicate, List, ℕ, length}
use Rattle.std.specs.Simd.Lanes.{zip2}
use Rattle.aes_core.specs.Bitslice.{plane_key}
use Rattle.aes_core.proofs.Sliced.{doubled_key, length-key_of, plane_key-first, plane_key-later}
use Rattle.aes_core.proofs.bitslice.wide_key.Goals.{then-r-eq0, else-r-eq0}
use Rattle.aes_core.proofs.bitslice.wide_key.Goals as goal

pub returns : goal.returns
returns c =
    let k = c.round_key-key.result in
    let e = c.round_key-key.ensures in
    let r = c.args.r in
    let long : length k ≡ 16 = ap length e ∙ length-key_of c.args.words.now r c.told-words c.requires in
    let wide = doubled_key k long in
    elim c.if-r-eq0.branch [
      | then-r-eq0 w ↦ w.result-is ∙ wide ∙ plane_key-first k r w.if-r-eq0.true ∙ ap (plane_key r) e
      | else-r-eq0 w ↦ w.result-is ∙ ap (λ (l : List ℕ). zip2 bit_xor l (replicate 32 0x63)) wide ∙ plane_key-later k r w.if-r-eq0.false long ∙ ap (plane_key r) e
    ]
