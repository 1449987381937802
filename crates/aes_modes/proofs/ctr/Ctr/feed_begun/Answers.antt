use Rattle.std.proofs.Common.{◌≡◌, ◌-◌, ◌+◌, ◌∙◌, length, take, drop, rules, refl, ap, arith, length-drop}
use Rattle.std.proofs.lemmas.List.{take_all}
use Rattle.crypto_model.specs.Modes.{xor_with}
use Rattle.aes_modes.proofs.Pieces.{feeds_begun}
use Rattle.aes_modes.proofs.ctr.Ctr.feed_begun.Goals as goal

pub returns-clause-fed : goal.returns-clause-fed
returns-clause-fed c =
    let used = c.args.self.now.used in
    let stream = c.args.self.now.stream in
    let long : length stream ≡ 64 = search rules in
    let left : take (64 - used) (drop used stream) ≡ drop used stream = take_all (64 - used) (drop used stream) (omega (arith, length-drop used stream)) in
    feeds_begun c.args.self.now _ c.args.piece.now _ refl refl refl (ap (λ n. used + n) c.xor_bytes.auto.text) (omega arith)
    (c.xor_bytes.ensures ∙ ap (xor_with c.args.piece.now) left)
