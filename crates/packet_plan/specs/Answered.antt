-- The record that is written for record n.
use Rattle.std.specs.Prelude.{ℕ, ◌+◌, ◌-◌, List, [], ◌∷◌, length, take, slice_get, if◌then◌else◌}
use Rattle.std.specs.Option.{option_map_or}
use Rattle.crypto_model.specs.declared.plain.SessId.{SessId}
use Rattle.crypto_model.specs.declared.plain.Status.{Status}
use Rattle.crypto_model.specs.declared.plain.Status.TheVariants.{Success}
use Rattle.crypto_model.specs.Process.{Answer, processed}
use Rattle.capture_io.specs.Capture.{Rec}
use Rattle.session_file.specs.declared.plan.Plan.{Plan}
use Rattle.packet_plan.specs.declared.way.Way.{Way}
use Rattle.packet_plan.specs.declared.written.Fate.{Fate}
use Rattle.packet_plan.specs.declared.written.Fate.TheVariants as fate
use Rattle.packet_plan.specs.Way.{way_of}
use Rattle.packet_plan.specs.Asked.{Asked, Passes, TooShort, Works, asked, sessions_of, transforms_of}

-- a record as it is written, and what became of its packet
pub record Answered : Type 0 where
  pub rec : Rec
  pub fate : Fate

-- the way of the session of this number
abbrev pub way_at : Plan → SessId → Way
way_at plan id = way_of (option_map_or transforms_of (slice_get plan.sessions id.0) [])

-- a success is written with its digest, or without the one that was taken back; anything else as it was read
abbrev pub written_packet : Status → Way → List ℕ → Answer → List ℕ
written_packet Success way packet answer =
    take (if way.inward then length packet - way.digest_len else length packet + way.digest_len) answer.packet
written_packet status way packet answer = packet

abbrev pub written_orig : Status → Way → ℕ → ℕ
written_orig Success way orig = if way.inward then orig - way.digest_len else orig + way.digest_len
written_orig status way orig = orig

abbrev pub worked_on : Way → Rec → Answer → Answered
worked_on way r answer = record {
  rec = record {
    sec = r.sec;
    frac = r.frac;
    orig = written_orig answer.status way r.orig;
    packet = written_packet answer.status way r.packet answer;
  };
  fate = fate.Worked answer.status;
}

abbrev pub answered_as : Plan → Rec → Asked → Answered
answered_as plan r Passes = record { rec = r; fate = fate.Passed }
answered_as plan r TooShort = record { rec = r; fate = fate.Short }
answered_as plan r (Works card input) = worked_on (way_at plan input.session) r (processed (sessions_of plan) input)

abbrev pub answered : Plan → ℕ → Rec → Answered
answered plan n r = answered_as plan r (asked plan n r.packet)

-- the records from number n on, each by itself
unfoldable pub answered_from : Plan → ℕ → List Rec → List Answered
answered_from plan n [] = []
answered_from plan n (r ∷ rs) = answered plan n r ∷ answered_from plan (n + 1) rs
