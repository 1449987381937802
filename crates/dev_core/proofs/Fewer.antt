-- A call that moves fewer operations than it could.
use Rattle.std.proofs.Common.{◌≡◌, ℕ, ◌+◌, ◌<◌, ◌≤◌, min, List, length, take, Option, None, Some, sym, arith, length-take}
use Rattle.std.proofs.lemmas.List.{length-map, take-take}
use Rattle.std.proofs.lemmas.List.Elements.{All-same, All-take}
use Rattle.std.proofs.lemmas.Bool.Decides.{nat_tests}
use Rattle.std.specs.List.{All}
use Rattle.std.specs.Option.{ForSome}
use Rattle.crypto_model.specs.Counts.{capped, Rose}
use Rattle.crypto_op.specs.declared.op.Op.{Op}
use Rattle.crypto_op.specs.Burst.{Burst}
use Rattle.dev_core.specs.Burst.{offered, lens}
use Rattle.dev_core.specs.Limits.{least, cuts_after}

-- what holds of the first ones holds of fewer
pub All-take_fewer : {X : Type 0} (P : X → Type 0) (xs : List X) (k m : ℕ) → k ≤ m → All P (take m xs) → All P (take k xs)
All-take_fewer P xs k m h all = All-same P (take k xs) (take k (take m xs)) (sym (take-take k m xs h)) (All-take P k (take m xs) all)

pub length-lens : {C : Type 0} (most : ℕ) (burst : Burst (Op C)) → length (lens most burst) ≡ offered most burst
length-lens most burst = rw (length-map, length-take)

pub least-le : (limit : Option ℕ) (n : ℕ) → least limit n ≤ n
least-le None n = omega arith
least-le (Some l) n = omega arith

-- the least of a limit and a number, of fewer
pub min-least : (limit : Option ℕ) (most n : ℕ) → n ≤ most → min (least limit most) n ≡ least limit n
min-least None most n h = omega arith
min-least (Some l) most n h = omega arith

-- the least of a limit and a number cuts what the limit cuts
pub cuts_after-least : (limit : Option ℕ) (most n cuts : ℕ) → n ≤ most → cuts_after (Some (least limit most)) n cuts ≡ cuts_after limit n cuts
cuts_after-least None most n cuts h = grind (arith, nat_tests)
cuts_after-least (Some l) most n cuts h = grind (arith, nat_tests)

-- where fewer are moved than could be, the limit cut the number, or a count below rose
pub both-rise : (limit : Option ℕ) (n could cuts before now : ℕ) → before ≤ now → (n < least limit could → Rose before now) → n < could → Rose (capped (before + cuts)) (capped (now + cuts_after limit could cuts))
both-rise None n could cuts before now grown rose less = let r = rose less in omega arith
both-rise (Some l) n could cuts before now grown rose less = grind (arith, nat_tests)

-- so many are at most the limit
pub within-limit : (limit : Option ℕ) (most n : ℕ) → n ≤ least limit most → ForSome limit (λ l. n ≤ l)
within-limit None most n h = λ l e. cc
within-limit (Some k) most n h = λ l e. (let same : k ≡ l = cc in omega (arith, same))

-- the limit of a number, and of what is there of it
pub least-min : (limit : Option ℕ) (most there : ℕ) → min (least limit most) there ≡ least limit (min most there)
least-min None most there = omega arith
least-min (Some l) most there = omega arith
