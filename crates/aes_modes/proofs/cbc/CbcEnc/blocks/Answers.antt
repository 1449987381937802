use Rattle.std.proofs.Common.{◌≤◌, ◌+◌, ◌-◌, ◌%◌, ◌≡◌, length, take, drop, refl, arith, rules, length-take, length-drop}
use Rattle.std.proofs.lemmas.List.{take_all}
use Rattle.aes_modes.specs.Chaining.{Chains}
use Rattle.aes_modes.proofs.ChainPieces.{chains_none, chains_both, chained_more, rest_after, come_to}
use Rattle.aes_modes.proofs.cbc.CbcEnc.blocks.Goals as goal

pub loop-at-init : goal.loop-at-init
loop-at-init c = record { whole = refl; rest = refl; chains = chains_none c.args.self.now }

pub loop-at-preserved : goal.loop-at-preserved
loop-at-preserved c =
    let old = c.args.piece.now in
    let now = c.loop-at.piece in
    let at = c.loop-at.at in
    let out = c.block.new.block in
    let k = at + 16 - at in
    let before = c.loop-at.invariant in
    let room : at + 16 ≤ length now = omega (arith, before.whole, c.requires) in
    let wide : length c.args.self.now.last ≡ 16 = search rules in
    let long : length out ≡ k = omega (arith, c.block.auto.block, length-take k (drop at now), length-drop at now) in
    let taken : length (take at old) % 16 ≡ 0 = omega (arith, before.whole, length-take at old) in
    record {
      whole = omega (arith, before.whole);
      rest = rest_after old now out at (at + 16) k before.rest (omega arith) room long;
      chains = come_to (Chains c.args.self.now c.block.new.self) old now out at (at + 16) k before.rest (omega arith) room long
          (chains_both c.args.self.now c.loop-at.self c.block.new.self (take at old) (take k (drop at now)) (take at now) out wide taken before.chains c.block.ensures);
    }

pub returns : goal.returns
returns c =
    let state = c.args.self.now in
    let old = c.args.piece.now in
    let now = c.loop-at.piece in
    let wide : length state.last ≡ 16 = search rules in
    let all : Chains state c.loop-at.self old now = rw (take_all c.loop-at.at old (omega arith), take_all c.loop-at.at now (omega arith)) at c.loop-at.invariant.chains in
    λ key iv text before. chained_more state c.loop-at.self old now key iv text wide c.requires all before
