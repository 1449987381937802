use Rattle.std.proofs.Common.{◌≡◌, List, ℕ, ◌++◌, ◌∙◌, length, refl, ap, rules}
use Rattle.crypto_model.specs.Modes.{xor_with}
use Rattle.aes_modes.proofs.ChainPieces.{unchains_group}
use Rattle.aes_modes.proofs.cbc.CbcDec.group.Goals as goal

pub returns : goal.returns
returns c =
    let state = c.args.self.now in
    let was = c.read_four.result in
    let now = c.decrypt_four.result in
    let wide : length state.last ≡ 16 = search rules in
    let one : length was.0 ≡ 16 = search rules in
    let two : length was.1 ≡ 16 = search rules in
    let three : length was.2 ≡ 16 = search rules in
    let four : length was.3 ≡ 16 = search rules in
    let first : length now.0 ≡ 16 = search rules in
    let second : length now.1 ≡ 16 = search rules in
    let third : length now.2 ≡ 16 = search rules in
    unchains_group state _ was.0 was.1 was.2 was.3 now.0 now.1 now.2 now.3 c.args.group.now _ wide one two three four first second third
    refl refl c.read_four.ensures c.decrypt_four.ensures.first c.decrypt_four.ensures.second c.decrypt_four.ensures.third c.decrypt_four.ensures.fourth
    (c.xor_four.ensures ∙ ap (λ (xs : List ℕ). xor_with xs ((state.last ++ was.0) ++ (was.1 ++ was.2))) c.write_four.ensures)
