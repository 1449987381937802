-- What an operation stands for: what it was made with, and what it has now.
use Rattle.std.specs.Prelude.{◌≡◌, ◌==◌, ℕ, List, if◌then◌else◌}
use Rattle.seg_list.specs.Buffer.{Buffer}
use Rattle.mbuf_chain.specs.Chain.{packet_of, with_packet}
use Rattle.crypto_model.specs.Process.{Transform, Input, Answer, processed}
use Rattle.crypto_model.specs.declared.plain.Status.TheVariants.{NotProcessed}
use Rattle.crypto_op.specs.declared.spec.OpSpec.{OpSpec}
use Rattle.crypto_op.specs.declared.op.Op.{Op}

-- what is asked for, at pos 0, and of which packet
pub record Request : Type 0 where
  pub spec : OpSpec
  pub chain : List Buffer

abbrev pub request : OpSpec → List Buffer → Request
request spec chain = record { spec = record spec { pos = 0 }; chain = chain }

-- the same as processing takes it
abbrev pub input_of : Request → Input
input_of r = record {
  session = r.spec.session;
  iv = r.spec.iv;
  aad = r.spec.aad;
  cipher = r.spec.cipher;
  auth = r.spec.auth;
  place = r.spec.place;
  digest = r.spec.digest;
  packet = packet_of r.chain;
}

-- the cipher range's length, or the authentication range's where that is empty
abbrev pub data_len_of : OpSpec → ℕ
data_len_of spec = if spec.cipher.len == 0 then spec.auth.len else spec.cipher.len

-- a request with a pos and a cargo
pub record Entry (C : Type 0) : Type 0 where
  pub request : Request
  pub pos : ℕ
  pub cargo : C

-- the request that the operation had when it was made or renewed
abbrev pub made : {C : Type 0} → Op C → Request
made op = request op.made_spec.value op.made_chain.value

-- the request that it has now
abbrev pub present : {C : Type 0} → Op C → Request
present op = request op.spec op.chain

abbrev pub entry_of : {C : Type 0} → Op C → Entry C
entry_of op = record { request = made op; pos = op.spec.pos; cargo = op.cargo }

-- not processed, with its made request
pub record IsFresh {C : Type 0} (op : Op C) : Type 0 where
  pub status : op.status ≡ NotProcessed
  pub request : present op ≡ made op

-- with the answer's digest field, and its packet in the same segments
abbrev pub answered : Answer → Request → Request
answered a r = record { spec = record r.spec { digest = a.digest }; chain = with_packet r.chain a.packet }

-- the operation is the answer to its made request
pub record IsDone {C : Type 0} (sessions : List (List Transform)) (op : Op C) : Type 0 where
  pub status : op.status ≡ (processed sessions (input_of (made op))).status
  pub present : present op ≡ answered (processed sessions (input_of (made op))) (made op)

abbrev pub moved_to : {C : Type 0} → ℕ → Op C → Op C
moved_to pos op = record op { spec = record op.spec { pos = pos } }

abbrev pub with_chain : {C : Type 0} → Op C → List Buffer → Op C
with_chain op chain = record op { chain = chain }
