-- Packets that keep their numbers beside them: all of a capture, or a share of it.
use Rattle.std.specs.Prelude.{◌+◌, ◌≤◌, ℕ, List, [], ◌∷◌, map}
use Rattle.capture_io.specs.Capture.{Rec}
use Rattle.session_file.specs.declared.plan.Plan.{Plan}
use Rattle.packet_plan.specs.Answered.{Answered, answered}

pub record Numbered : Type 0 where
  pub number : ℕ
  pub rec : Rec

-- these records, numbered from n on
unfoldable pub numbered : (n : ℕ) → List Rec → List Numbered
numbered n [] = []
numbered n (r ∷ rs) = record { number = n; rec = r } ∷ numbered (n + 1) rs

abbrev pub numbers_of : List Numbered → List ℕ
numbers_of ps = map (λ p. p.number) ps

-- each is above those before it, and the first is n at least
abbrev pub RisesFrom : (n : ℕ) → List ℕ → Type 0
RisesFrom n [] = Unit {0}
RisesFrom n (m ∷ ms) = (n ≤ m) × RisesFrom (m + 1) ms

-- the records that are written for them, each answered by itself
abbrev pub answers_to : Plan → List Numbered → List Answered
answers_to plan ps = map (λ p. answered plan p.number p.rec) ps
