-- The comparison of a rule's bytes with a packet, and the walk over the rules.
use Rattle.std.proofs.Common.{◌≡◌, ℕ, ◌+◌, ◌-◌, ◌<◌, ◌≤◌, List, ◌∷◌, ◌++◌, length, get_or, take, drop, true, false, bytes_eq, ap, sym, ◌∙◌, arith}
use Rattle.std.specs.Prelude.{if◌then◌else◌}
use Rattle.std.proofs.Math.Seq.{take-add}
use Rattle.std.proofs.lemmas.Bool.{false_from_ne_true}
use Rattle.std.proofs.lemmas.List.{take-take, drop-take, drop-drop, drop_more, at_drop_all, take_all}
use Rattle.std.proofs.lemmas.Slice.Eq.{bytes_eq-Decides}
use Rattle.session_file.specs.declared.plan.Choice.{Choice}
use Rattle.session_file.specs.declared.plan.Rule.{Rule}
use Rattle.packet_plan.specs.Asked.{chosen_from, has_bytes}

-- a piece of a text, behind what was compared with the front of some bytes
pub record IsPiece (text bytes piece : List ℕ) (done : ℕ) : Type 0 where
  pub within : done + length piece ≤ length bytes
  pub front : take done text ≡ take done bytes
  pub is : piece ≡ take (length piece) (drop done text)

-- a piece that was lent
pub piece_at : (packet bytes piece : List ℕ) (at done n : ℕ) → piece ≡ take n (drop (at + done) packet) → length piece ≡ n → length piece ≤ length bytes - done
    → done ≤ length bytes → take done (drop at packet) ≡ take done bytes → IsPiece (drop at packet) bytes piece done
piece_at packet bytes piece at done n value size most below front = record {
  within = omega arith;
  front = front;
  is = value ∙ ap (λ (k : ℕ). take k (drop (at + done) packet)) (sym size) ∙ ap (take (length piece)) (sym (drop-drop done at packet));
}

-- the bytes that it is compared with
abbrev pub beside : List ℕ → List ℕ → ℕ → List ℕ
beside bytes piece done = take (done + length piece - done) (drop done bytes)

beside-is : (bytes piece : List ℕ) (done : ℕ) → beside bytes piece done ≡ take (length piece) (drop done bytes)
beside-is bytes piece done = let e : done + length piece - done ≡ length piece = omega arith in ap (λ (n : ℕ). take n (drop done bytes)) e

-- one piece more is the same
pub same_more : (text bytes piece : List ℕ) (done : ℕ) → IsPiece text bytes piece done → bytes_eq piece (beside bytes piece done) ≡ true
    → take (done + length piece) text ≡ take (done + length piece) bytes
same_more text bytes piece done at same =
    let equal : piece ≡ take (length piece) (drop done bytes) = (bytes_eq-Decides piece (beside bytes piece done)).0 same ∙ beside-is bytes piece done in
    take-add done (length piece) text ∙ ap (λ (xs : List ℕ). xs ++ take (length piece) (drop done text)) at.front
    ∙ ap (λ (xs : List ℕ). take done bytes ++ xs) (sym at.is ∙ equal) ∙ sym (take-add done (length piece) bytes)

-- where a piece differs, all of it does
pub one_differs : (text bytes piece : List ℕ) (done : ℕ) → IsPiece text bytes piece done → bytes_eq piece (beside bytes piece done) ≡ false
    → bytes_eq (take (length bytes) text) bytes ≡ false
one_differs text bytes piece done at differs =
    false_from_ne_true _
    (λ same.
    let n = length piece in
    let all : take (length bytes) text ≡ bytes = (bytes_eq-Decides (take (length bytes) text) bytes).0 same in
    let part : take n (drop done bytes) ≡ take n (drop done text) =
    sym (drop-take done n bytes) ∙ ap (λ (xs : List ℕ). drop done (take (done + n) xs)) (sym all) ∙ ap (drop done) (take-take (done + n) (length bytes) text at.within)
    ∙ drop-take done n text in
    let equal : bytes_eq piece (beside bytes piece done) ≡ true = (bytes_eq-Decides piece (beside bytes piece done)).1 (at.is ∙ sym part ∙ sym (beside-is bytes piece done)) in cc)

-- at the end everything was compared
pub all_same : (text bytes : List ℕ) (done : ℕ) → done ≤ length bytes → length bytes ≤ done → take done text ≡ take done bytes → bytes_eq (take (length bytes) text) bytes ≡ true
all_same text bytes done low high same =
    let e : done ≡ length bytes = omega arith in
    (bytes_eq-Decides (take (length bytes) text) bytes).1 (rw e at same ∙ take_all (length bytes) bytes (omega arith))

-- ---- the rules

-- the rule at i is the first that the packet has, or there is one rule less
pub chosen_at : (rules : List Rule) (i : ℕ) (rule : Rule) (otherwise : Choice) (packet : List ℕ) → i < length rules → rule ≡ get_or rules i rule
    → chosen_from i (drop i rules) otherwise packet ≡ (if has_bytes packet rule then record { choice = rule.choice; flow = i + 1 } else chosen_from (i + 1) (drop (i + 1) rules) otherwise packet)
unfolding chosen_from
chosen_at rules i rule otherwise packet within is =
    ap (λ (l : List Rule). chosen_from i l otherwise packet) (drop_more rules i rule within)
    ∙ ap (λ (r : Rule). chosen_from i (r ∷ drop (i + 1) rules) otherwise packet) (sym is)

-- no rule is left
pub chosen_none : (rules : List Rule) (i : ℕ) (otherwise : Choice) (packet : List ℕ) → length rules ≤ i
    → chosen_from i (drop i rules) otherwise packet ≡ record { choice = otherwise; flow = 0 }
unfolding chosen_from
chosen_none rules i otherwise packet past = at_drop_all (λ (l : List Rule). chosen_from i l otherwise packet) rules i past
