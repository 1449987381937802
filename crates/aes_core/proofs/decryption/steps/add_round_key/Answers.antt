use Rattle.std.proofs.Common.{◌≡◌, ◌∙◌, ◌*◌, ap, List, ℕ, length, drop, arith, length-drop}
use Rattle.std.proofs.lemmas.List.{length-take-le}
use Rattle.crypto_model.specs.Aes.{add_round_key}
use Rattle.aes_core.proofs.Rows.{xored_is, key_alone}
use Rattle.aes_core.proofs.decryption.steps.add_round_key.Goals as goal

pub returns : goal.returns
returns c =
    let rest = drop (16 * c.args.round) c.args.words.now in
    let long : length c.round_key.result ≡ 16 = ap length c.round_key.ensures ∙ length-take-le 16 rest (omega (arith, length-drop (16 * c.args.round) c.args.words.now)) in
    xored_is c.args.state c.round_key.result c.fits-state.0 long ∙ ap (λ (k : List ℕ). add_round_key k 0 c.args.state) c.round_key.ensures
    ∙ key_alone c.args.words.now c.args.state c.args.round
