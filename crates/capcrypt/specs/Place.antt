-- Where a run reads its capture and writes it: what it was handed, or, where the words ask for that, a generated capture and a digest.
use Rattle.std.specs.Prelude.{◌≡◌, ℕ, true, List, [], Option, None, Some, Result, Ok, Err}
use Rattle.sha2.specs.Sha256.{sha256}
use Rattle.capture_io.specs.Generated.{generated}
use Rattle.command_words.specs.Asked.{Wanted, AsksQuick, AsksCrypt, AsksForward, AsksGen, Fault}
use Rattle.command_words.specs.declared.generated.Gen.{Gen}
use Rattle.capcrypt.specs.declared.ending.Outcome.{Outcome}

-- what is generated
abbrev pub generated_in : Result Wanted Fault → Option Gen
generated_in (Ok (AsksGen packets number)) = Some (record { packets = packets; number = number })
generated_in (Ok (AsksQuick key salt)) = None
generated_in (Ok (AsksCrypt scheduler sessions burst)) = None
generated_in (Ok (AsksForward scheduler sessions)) = None
generated_in (Err fault) = None

abbrev pub IsGenerated : Option Gen → Type 0
IsGenerated None = ⊥
IsGenerated (Some g) = Unit {0}

-- a fact of what was handed in, which says nothing where a capture is generated
abbrev pub OfHanded : Option Gen → Type 0 → Type 0
OfHanded None P = P
OfHanded (Some g) P = Unit {0}

-- the bytes that are read as the capture
abbrev pub capture_read : Option Gen → List ℕ → List ℕ
capture_read None left = left
capture_read (Some g) left = generated g.packets g.number

-- what stands before and behind the run where it writes: in the output that was handed in, or from nothing on
abbrev pub IsPlace : Option Gen → (out_old out_new old new : List ℕ) → Type 0
IsPlace None out_old out_new old new = (old ≡ out_old) × (new ≡ out_new)
IsPlace (Some g) out_old out_new old new = (old ≡ []) × (out_new ≡ out_old)

-- the digest that is told of what was written
abbrev pub digest_of : Option Gen → List ℕ → Option (List ℕ)
digest_of None new = None
digest_of (Some g) new = Some (sha256 new)

-- What a run did, by what stands where it wrote. Where the header was read, it has the digest of that.
pub record HasWorked (made : Option Gen) (out_old out_new : List ℕ) (o : Outcome) (digest : Option (List ℕ)) (Did : List ℕ → List ℕ → Type 0) : Type 0 where
  pub old : List ℕ
  pub new : List ℕ
  pub place : IsPlace made out_old out_new old new
  pub told : o.header ≡ true → digest ≡ digest_of made new
  pub did : Did old new
