-- What a plan asks for of packet n.
use Rattle.std.specs.Prelude.{ℕ, ◌+◌, ◌-◌, ◌&&◌, ◌||◌, Bool, true, false, List, [], ◌∷◌, ◌++◌, length, map, take, drop, replicate, nat_le, nat_lt, nat_eq, bytes_eq, slice_get, Option, None, Some, if◌then◌else◌}
use Rattle.crypto_model.specs.declared.plain.SessId.{SessId}
use Rattle.crypto_model.specs.declared.plain.Range.{Range}
use Rattle.crypto_model.specs.declared.plain.DigestPlace.{DigestPlace}
use Rattle.crypto_model.specs.declared.plain.DigestPlace.TheVariants.{Nowhere, InChain}
use Rattle.crypto_model.specs.Process.{Transform, Input}
use Rattle.crypto_op.specs.declared.spec.Card.{Card}
use Rattle.sym_session.specs.Xform.{transform_of}
use Rattle.session_file.specs.declared.plan.Choice.{Choice}
use Rattle.session_file.specs.declared.plan.Choice.TheVariants.{Pass, Use}
use Rattle.session_file.specs.declared.plan.Named.{Named}
use Rattle.session_file.specs.declared.plan.Rule.{Rule}
use Rattle.session_file.specs.declared.plan.Plan.{Plan}
use Rattle.packet_plan.specs.declared.way.Way.{Way}
use Rattle.packet_plan.specs.Way.{way_of}
use Rattle.packet_plan.specs.Iv.{iv_of}

-- ---- the choice

-- the rule's bytes stand wholly in the packet, at its offset
abbrev pub has_bytes : List ℕ → Rule → Bool
has_bytes packet rule =
    nat_le (rule.offset + length rule.bytes) (length packet) && bytes_eq (take (length rule.bytes) (drop rule.offset packet)) rule.bytes

-- a choice, and the flow that it makes: 0 for the default, 1 and the rule's place for a rule
pub record Chosen : Type 0 where
  pub choice : Choice
  pub flow : ℕ

-- the choice of the first rule that the packet has, where i rules stand before these, or else the default
unfoldable pub chosen_from : ℕ → List Rule → Choice → List ℕ → Chosen
chosen_from i [] otherwise packet = record { choice = otherwise; flow = 0 }
chosen_from i (rule ∷ rules) otherwise packet =
    if has_bytes packet rule then record { choice = rule.choice; flow = i + 1 } else chosen_from (i + 1) rules otherwise packet

abbrev pub chosen : Plan → List ℕ → Chosen
chosen plan packet = chosen_from 0 plan.rules plan.otherwise packet

abbrev pub is_pass : Choice → Bool
is_pass Pass = true
is_pass (Use id skip) = false

-- the plan chooses no session for this packet
abbrev pub lets_pass : Plan → List ℕ → Bool
lets_pass plan packet = is_pass (chosen plan packet).choice

-- ---- the operation, for a packet of len bytes behind its first `skip`

abbrev pub transforms_of : Named → List Transform
transforms_of s = map transform_of s.xforms

abbrev pub sessions_of : Plan → List (List Transform)
sessions_of plan = map transforms_of plan.sessions

-- where the data ends: inward, the digest stands behind it
abbrev pub end_of : Way → ℕ → ℕ
end_of way len = if way.inward then len - way.digest_len else len

-- the bytes put behind a packet, in which the digest is written
abbrev pub room_for : Way → ℕ
room_for way = if way.inward then 0 else way.digest_len

abbrev pub is_too_short : Way → ℕ → ℕ → Bool
is_too_short way skip len = nat_lt len skip || (way.inward && nat_lt len (skip + way.digest_len))

abbrev pub no_range : Range
no_range = record { off = 0; len = 0 }

abbrev pub data_range : Way → ℕ → ℕ → Range
data_range way skip len = if way.crypts then record { off = skip; len = end_of way len - skip } else no_range

abbrev pub code_range : Way → ℕ → Range
code_range way len = if way.code then record { off = 0; len = end_of way len } else no_range

abbrev pub digest_place : Way → ℕ → DigestPlace
digest_place way len = if nat_eq way.digest_len 0 then Nowhere else InChain (end_of way len)

abbrev pub aad_in : Way → ℕ → List ℕ → List ℕ
aad_in way skip packet = if way.aead then take skip packet else []

abbrev pub packet_input : SessId → Named → ℕ → ℕ → List ℕ → Input
packet_input id s skip n packet =
    let way = way_of (transforms_of s) in
    let len = length packet in
    record {
      session = id;
      iv = iv_of (transforms_of s) s.salt n;
      aad = aad_in way skip packet;
      cipher = data_range way skip len;
      auth = code_range way len;
      place = digest_place way len;
      digest = replicate 64 0;
      packet = packet ++ replicate (room_for way) 0;
    }

-- ---- what is asked for

-- the packet passes; or it is too short for its session; or an operation works on it
pub data Asked : Type 0 where
  Passes : Asked
  TooShort : Asked
  Works : Card → Input → Asked

-- by the session of this number, which a choice of a sound plan always names
abbrev pub asked_of : Option Named → SessId → ℕ → ℕ → ℕ → List ℕ → Asked
asked_of None id skip flow n packet = Passes
asked_of (Some s) id skip flow n packet =
    if is_too_short (way_of (transforms_of s)) skip (length packet) then TooShort
    else Works (record { packet = n; flow = flow }) (packet_input id s skip n packet)

abbrev pub asked_by : Plan → ℕ → Choice → ℕ → List ℕ → Asked
asked_by plan flow Pass n packet = Passes
asked_by plan flow (Use id skip) n packet = asked_of (slice_get plan.sessions id.0) id skip flow n packet

unfoldable pub asked : Plan → ℕ → List ℕ → Asked
asked plan n packet = let c = chosen plan packet in asked_by plan c.flow c.choice n packet

-- the inputs of what is asked for: one, or none
abbrev pub inputs_of : Asked → List Input
inputs_of Passes = []
inputs_of TooShort = []
inputs_of (Works card input) = input ∷ []
