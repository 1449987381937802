-- What is made ready of a session once, and what it makes of each packet.
use Rattle.std.specs.Prelude.{◌≡◌, ℕ, true, false, None, List, [], ◌∷◌, ◌++◌, length, map, replicate}
use Rattle.std.specs.Int.{w32, to_be_bytes}
use Rattle.crypto_model.specs.declared.plain.CipherAlg.TheVariants.{AesCbc, AesCtr}
use Rattle.crypto_model.specs.Aes.{cipher}
use Rattle.crypto_model.specs.Process.{Transform, Cipher, Auth, Aead, Input}
use Rattle.sym_session.specs.Fault.{fault_of}
use Rattle.crypto_op.specs.declared.spec.Card.{Card}
use Rattle.crypto_op.specs.declared.spec.OpSpec.{OpSpec}
use Rattle.crypto_op.specs.declared.op.Op.{Op}
use Rattle.crypto_op.specs.Op.{IsFresh, made, input_of}
use Rattle.capture_io.specs.Capture.{Rec}
use Rattle.session_file.specs.declared.plan.Named.{Named}
use Rattle.session_file.specs.declared.plan.Plan.{Plan}
use Rattle.session_file.specs.Sound.{IsSound}
use Rattle.packet_plan.specs.declared.written.Fate.TheVariants.{Short}
use Rattle.packet_plan.specs.declared.written.Kept.{Kept}
use Rattle.packet_plan.specs.declared.written.Work.{Work}
use Rattle.packet_plan.specs.declared.written.Work.TheVariants as work
use Rattle.packet_plan.specs.declared.errand.Errand.{Errand}
use Rattle.packet_plan.specs.declared.iv.IvRule.{IvRule}
use Rattle.packet_plan.specs.declared.iv.IvRule.TheVariants.{Empty, Counter, Nonce, Encrypted}
use Rattle.packet_plan.specs.declared.session_way.SessionWay.{SessionWay}
use Rattle.packet_plan.specs.Way.{way_of}
use Rattle.packet_plan.specs.Iv.{nonce}
use Rattle.packet_plan.specs.Asked.{transforms_of, aad_in, data_range, code_range, digest_place, is_too_short, room_for}
use Rattle.packet_plan.specs.Work.{kept_rec, written_view}

-- ---- IVs

-- the IV of packet n by a rule
abbrev pub iv_by : IvRule → ℕ → List ℕ
iv_by Empty n = []
iv_by (Counter salt) n = nonce salt n ++ to_be_bytes w32 1
iv_by (Nonce salt) n = nonce salt n
iv_by (Encrypted key salt) n = cipher key (nonce salt n)

-- the rule of these transforms, with this salt
abbrev pub rule_of : List Transform → List ℕ → IvRule
rule_of [] salt = Empty
rule_of (Cipher AesCtr dir key ∷ ts) salt = Counter salt
rule_of (Cipher AesCbc dir key ∷ ts) salt = Encrypted key salt
rule_of (Aead dir key len aad_len ∷ ts) salt = Nonce salt
rule_of (Auth hash act key len ∷ ts) salt = rule_of ts salt

-- how many bytes of salt it takes
abbrev pub salt_len : List Transform → ℕ
salt_len [] = 0
salt_len (Cipher AesCtr dir key ∷ ts) = 4
salt_len (Cipher AesCbc dir key ∷ ts) = 8
salt_len (Aead dir key len aad_len ∷ ts) = 4
salt_len (Auth hash act key len ∷ ts) = salt_len ts

-- ---- sessions

-- its transforms make a session, and its salt is as long as they take
pub record IsUsable (s : Named) : Type 0 where
  pub made : fault_of (transforms_of s) ≡ None
  pub salted : length s.salt ≡ salt_len (transforms_of s)

abbrev pub ready_of : Named → SessionWay
ready_of s = record { way = way_of (transforms_of s); iv = rule_of (transforms_of s) s.salt }

-- what it asks for of a packet
abbrev pub spec_by : SessionWay → Errand → List ℕ → OpSpec
spec_by s e packet = record {
  session = e.session;
  iv = iv_by s.iv e.card.packet;
  aad = aad_in s.way e.skip packet;
  cipher = data_range s.way e.skip (length packet);
  auth = code_range s.way (length packet);
  place = digest_place s.way (length packet);
  digest = replicate 64 0;
  pos = e.pos;
}

-- the same as processing takes it, with room for a digest
abbrev pub input_by : SessionWay → Errand → List ℕ → Input
input_by s e packet =
    let spec = spec_by s e packet in
    record {
      session = spec.session;
      iv = spec.iv;
      aad = spec.aad;
      cipher = spec.cipher;
      auth = spec.auth;
      place = spec.place;
      digest = spec.digest;
      packet = packet ++ replicate (room_for s.way) 0;
    }

-- ---- plans

-- a sound plan with the ways of its sessions
pub record IsReady (plan : Plan) (all : List SessionWay) : Type 0 where
  pub sound : IsSound plan
  pub ways : all ≡ map ready_of plan.sessions

-- ---- records

-- an operation that was made for a record
pub record IsMade (s : SessionWay) (e : Errand) (r : Rec) (k : Kept) (op : Op Card) : Type 0 where
  pub long : is_too_short s.way e.skip (length r.packet) ≡ false
  pub input : input_of (made op) ≡ input_by s e r.packet
  pub fresh : IsFresh op
  pub pos : op.spec.pos ≡ e.pos
  pub cargo : op.cargo ≡ e.card
  pub kept : kept_rec k ≡ r

-- what a session makes of a record: nothing where the packet is too short
abbrev pub IsBegunBy : SessionWay → Errand → Rec → Work → Type 0
IsBegunBy s e r (work.Ready w) = (is_too_short s.way e.skip (length r.packet) ≡ true) × (written_view w ≡ record { rec = r; fate = Short })
IsBegunBy s e r (work.Needs kept op) = IsMade s e r kept op
