use Rattle.std.proofs.Common.{List, [], ◌∷◌, ◌++◌, ℕ, map, get_or, length, ap, refl, ◌∙◌, arith, lit<}
use Rattle.aes_core.specs.Basis.{back}
use Rattle.aes_core.proofs.Wires.{both_same}
use Rattle.aes_core.proofs.Sliced.{begins, goes_on, ends, key_of, length-key_of}
use Rattle.aes_core.proofs.WideRounds.{inner_round}
use Rattle.aes_core.proofs.wide.encrypt_two_pairs.Goals as goal

pub rounds-init : goal.rounds-init
rounds-init c =
    let w = c.args.words.now in
    let k = key_of w 0 in
    let long = length-key_of w 0 c.told-words (lit< tt) in
    let e = c.twice-key.ensures ∙ ap (λ (q : List ℕ). q ++ q) c.round_key.ensures in
    begins w (c.args.a ∷ c.args.b ∷ []) _ (both_same (c.first_key-s.ensures k long e) (both_same (c.first_key-t.ensures k long e) refl))

pub rounds-preserved : goal.rounds-preserved
rounds-preserved c =
    let w = c.args.words.now in
    let n = c.args.inner.now in
    let r = c.rounds.r in
    let k = c.round_key-in-rounds.result in
    let h = c.requires.inner in
    let i = c.round_key-in-rounds.ensures in
    let long = ap length i ∙ length-key_of n r c.told-inner (omega arith) in
    let e = c.twice-key-in-rounds.ensures in
    goes_on w (c.args.a ∷ c.args.b ∷ []) (map back c.rounds.s ∷ map back c.rounds.t ∷ []) _ r c.rounds.auto.r c.rounds.invariant
    (both_same (inner_round w n k _ _ r h i (c.round-s.ensures k long e)) (both_same (inner_round w n k _ _ r h i (c.round-t.ensures k long e)) refl))

pub returns-clause-first : goal.returns-clause-first
returns-clause-first c =
    let w = c.args.words.now in
    let n = c.args.rounds in
    let k = key_of w n in
    let long = length-key_of w n c.told-words (omega arith) in
    let e = c.twice-key-2.ensures ∙ ap (λ (q : List ℕ). q ++ q) c.round_key-2.ensures in
    ap (λ (l : List (List ℕ)). get_or l 0 []) (ends w (c.args.a ∷ c.args.b ∷ []) (map back c.rounds.s ∷ map back c.rounds.t ∷ []) (c.last_round.result ∷ c.last_round-2.result ∷ []) c.rounds.r n (omega arith) c.rounds.invariant
    (both_same (c.last_round.ensures k long e) (both_same (c.last_round-2.ensures k long e) refl)))

pub returns-clause-second : goal.returns-clause-second
returns-clause-second c =
    let w = c.args.words.now in
    let n = c.args.rounds in
    let k = key_of w n in
    let long = length-key_of w n c.told-words (omega arith) in
    let e = c.twice-key-2.ensures ∙ ap (λ (q : List ℕ). q ++ q) c.round_key-2.ensures in
    ap (λ (l : List (List ℕ)). get_or l 1 []) (ends w (c.args.a ∷ c.args.b ∷ []) (map back c.rounds.s ∷ map back c.rounds.t ∷ []) (c.last_round.result ∷ c.last_round-2.result ∷ []) c.rounds.r n (omega arith) c.rounds.invariant
    (both_same (c.last_round.ensures k long e) (both_same (c.last_round-2.ensures k long e) refl)))
