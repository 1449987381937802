-- The log of a burst's first operations.
use Rattle.std.proofs.Common.{◌≡◌, ℕ, ◌+◌, ◌<◌, ◌≤◌, List, [], ◌∷◌, ◌++◌, length, get_or, take, map, length-take, ap, ◌∙◌, sym}
use Rattle.std.proofs.lemmas.List.{length-map, take_more, take-take, map-append, take-map}
use Rattle.std.proofs.lemmas.Simd.{map-map}
use Rattle.std.proofs.Math.Seq.{take-append-add}
use Rattle.crypto_op.specs.declared.op.Op.{Op}
use Rattle.crypto_op.specs.Burst.{Burst}
use Rattle.dev_core.specs.Burst.{front_log, lens, log_entry, offered}
use Rattle.dev_core.specs.declared.driver.LogEntry.{LogEntry}

pub front_log-next : {C : Type 0} (burst : Burst (Op C)) (i : ℕ) (op : Op C) → i < length burst.ops → op ≡ get_or burst.ops i op → front_log (i + 1) burst ≡ front_log i burst ++ log_entry op ∷ []
front_log-next burst i op h e = ap (map log_entry) (take_more burst.ops i op h ∙ ap (λ y. take i burst.ops ++ y ∷ []) (sym e)) ∙ map-append log_entry (take i burst.ops) (op ∷ [])

-- the data lengths of what would be logged
pub lens-front_log : {C : Type 0} (most : ℕ) (burst : Burst (Op C)) → map (λ e. e.data_len) (front_log most burst) ≡ lens most burst
lens-front_log most burst = map-map _ log_entry (take most burst.ops)

-- the first n of more entries
pub front_log-take : {C : Type 0} (burst : Burst (Op C)) (n more : ℕ) → n ≤ more → take n (front_log more burst) ≡ front_log n burst
front_log-take burst n more h = take-map log_entry n (take more burst.ops) ∙ ap (map log_entry) (take-take n more burst.ops h)

pub length-front_log : {C : Type 0} (most : ℕ) (burst : Burst (Op C)) → length (front_log most burst) ≡ offered most burst
length-front_log most burst = rw (length-map, length-take)

-- of more entries than the first n operations have, those of the first n
pub take-front_log : {C : Type 0} (before : List LogEntry) (burst : Burst (Op C)) (n more : ℕ) → n ≤ more → take (length before + n) (before ++ front_log more burst) ≡ before ++ front_log n burst
take-front_log before burst n more h =
    take-append-add before (front_log more burst) n ∙ ap (λ l. before ++ l) (front_log-take burst n more h)
