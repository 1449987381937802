use Rattle.std.proofs.Common.{◌≡◌, ◌%◌, ◌++◌, List, ℕ, length, sym, subst, rules, arith}
use Rattle.aes_modes.specs.Chaining.{Unchains}
use Rattle.aes_modes.proofs.ChainPieces.{unchains_both, unchained_more}
use Rattle.aes_modes.proofs.cbc.CbcDec.blocks.Goals as goal

pub returns : goal.returns
returns c =
    let state = c.args.self.now in
    let parts = c.split_at_mut-groups in
    let first = parts.result.0.now in
    let out = c.groups.new.piece ++ c.rest.new.piece in
    let wide : length state.last ≡ 16 = search rules in
    let whole : length first % 16 ≡ 0 = omega (arith, parts.ensures.front_len) in
    let all : Unchains state c.rest.new.self c.args.piece.now out =
    subst (λ (xs : List ℕ). Unchains state c.rest.new.self xs out) (sym parts.ensures.value)
    (unchains_both state c.groups.new.self c.rest.new.self first parts.result.1.now c.groups.new.piece c.rest.new.piece wide whole c.groups.ensures c.rest.ensures) in
    λ key iv text before. unchained_more state c.rest.new.self c.args.piece.now out key iv text wide c.requires all before
