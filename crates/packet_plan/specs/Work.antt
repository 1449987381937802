-- What records in memory say, on their way through a device.
use Rattle.std.specs.Prelude.{◌≡◌, ℕ, []}
use Rattle.mbuf_chain.specs.Chain.{packet_of}
use Rattle.crypto_op.specs.declared.spec.Card.{Card}
use Rattle.crypto_op.specs.declared.op.Op.{Op}
use Rattle.crypto_op.specs.Op.{IsFresh, made, input_of}
use Rattle.capture_io.specs.Capture.{Rec, view}
use Rattle.session_file.specs.declared.plan.Plan.{Plan}
use Rattle.packet_plan.specs.declared.written.Kept.{Kept}
use Rattle.packet_plan.specs.declared.written.Written.{Written}
use Rattle.packet_plan.specs.declared.written.Work.{Work}
use Rattle.packet_plan.specs.declared.written.Work.TheVariants as work
use Rattle.packet_plan.specs.Asked.{Works, asked, inputs_of}
use Rattle.packet_plan.specs.Answered.{Answered, answered}

abbrev pub written_view : Written → Answered
written_view w = record { rec = view w.rec; fate = w.fate }

-- the record as it was read
abbrev pub kept_rec : Kept → Rec
kept_rec k = record { sec = k.sec; frac = k.frac; orig = k.orig; packet = packet_of k.read.value }

-- operation i, which was made for record n
pub record IsAsked (plan : Plan) (n i : ℕ) (r : Rec) (k : Kept) (op : Op Card) : Type 0 where
  pub asked : asked plan n r.packet ≡ Works op.cargo (input_of (made op))
  pub fresh : IsFresh op
  pub pos : op.spec.pos ≡ i
  pub number : op.cargo.packet ≡ n
  pub kept : kept_rec k ≡ r

-- record n needs no operation and is ready, or operation i was made for it
abbrev pub IsBegun : Plan → (n i : ℕ) → Rec → Work → Type 0
IsBegun plan n i r (work.Ready w) = (written_view w ≡ answered plan n r) × (inputs_of (asked plan n r.packet) ≡ [])
IsBegun plan n i r (work.Needs kept op) = IsAsked plan n i r kept op
