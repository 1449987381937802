use Rattle.std.proofs.Common.{◌≤◌, ◌+◌, ◌-◌, ◌%◌, ◌≡◌, length, take, drop, refl, arith, rules, length-take, length-drop}
use Rattle.aes_modes.specs.Chaining.{Unchains}
use Rattle.aes_modes.proofs.ChainPieces.{unchains_none, unchains_both, rest_after, come_to}
use Rattle.aes_modes.proofs.cbc.CbcDec.groups.Goals as goal

pub loop-at-init : goal.loop-at-init
loop-at-init c = record { whole = refl; rest = refl; unchains = unchains_none c.args.self.now }

pub loop-at-preserved : goal.loop-at-preserved
loop-at-preserved c =
    let old = c.args.piece.now in
    let now = c.loop-at.piece in
    let at = c.loop-at.at in
    let out = c.group.new.group in
    let k = at + 64 - at in
    let before = c.loop-at.invariant in
    let room : at + 64 ≤ length now = omega (arith, before.whole, c.requires) in
    let wide : length c.args.self.now.last ≡ 16 = search rules in
    let long : length out ≡ k = omega (arith, c.group.auto.group, length-take k (drop at now), length-drop at now) in
    let taken : length (take at old) % 16 ≡ 0 = omega (arith, before.whole, length-take at old) in
    record {
      whole = omega (arith, before.whole);
      rest = rest_after old now out at (at + 64) k before.rest (omega arith) room long;
      unchains = come_to (Unchains c.args.self.now c.group.new.self) old now out at (at + 64) k before.rest (omega arith) room long
          (unchains_both c.args.self.now c.loop-at.self c.group.new.self (take at old) (take k (drop at now)) (take at now) out wide taken before.unchains c.group.ensures);
    }
