-- A transform at work on an operation.
use Rattle.std.specs.Prelude.{◌≡◌, ℕ, ◌+◌, ◌%◌, ◌≤◌, List, length, Bool, true, false, Option, None, Some}
use Rattle.crypto_model.specs.declared.plain.DigestPlace.{DigestPlace}
use Rattle.crypto_model.specs.declared.plain.DigestPlace.TheVariants.{Nowhere, InChain, OwnField}
use Rattle.crypto_model.specs.declared.plain.CipherAlg.{CipherAlg}
use Rattle.crypto_model.specs.declared.plain.CipherAlg.TheVariants.{AesCbc}
use Rattle.crypto_model.specs.declared.plain.Dir.{Dir}
use Rattle.crypto_model.specs.declared.plain.Range.{Range}
use Rattle.crypto_model.specs.Chain.{laid_at}
use Rattle.crypto_model.specs.Process.{Transform, Cipher, Auth, Aead, Input, Answer, Work, bytes_in, crypted}
use Rattle.seg_list.specs.Buffer.{Buffer}
use Rattle.mbuf_chain.specs.Chain.{packet_of, with_packet}
use Rattle.crypto_op.specs.declared.spec.OpSpec.{OpSpec}
use Rattle.crypto_op.specs.declared.op.Op.{Op}

-- what is asked of a packet
abbrev pub input_for : OpSpec → List ℕ → Input
input_for spec packet = record {
  session = spec.session;
  iv = spec.iv;
  aad = spec.aad;
  cipher = spec.cipher;
  auth = spec.auth;
  place = spec.place;
  digest = spec.digest;
  packet = packet;
}

abbrev pub work_of : List Buffer → List ℕ → Work
work_of chain digest = record { packet = packet_of chain; digest = digest }

-- the bytes of a range, and nothing else, after a cipher's step
abbrev pub ciphered : CipherAlg → Dir → (key iv : List ℕ) → Range → List Buffer → List Buffer
ciphered alg dir key iv range chain =
    with_packet chain (laid_at range.off (crypted alg dir key iv (bytes_in range (packet_of chain))) (packet_of chain))

-- a digest of n bytes can stand at the place
abbrev pub place_ready : ℕ → List ℕ → DigestPlace → Type 0
place_ready n packet Nowhere = ⊥
place_ready n packet OwnField = Unit {0}
place_ready n packet (InChain at) = at + n ≤ length packet

-- what the checks give a transform
abbrev pub ready : Input → Transform → Type 0
ready input (Cipher alg dir key) = (input.cipher.off + input.cipher.len ≤ length input.packet) × (length input.iv ≡ 16)
    × (alg ≡ AesCbc → input.cipher.len % 16 ≡ 0)
ready input (Auth hash act key n) = (input.auth.off + input.auth.len ≤ length input.packet) × place_ready n input.packet input.place
ready input (Aead dir key n aad_len) = (input.cipher.off + input.cipher.len ≤ length input.packet) × (length input.iv ≡ 12)
    × place_ready n input.packet input.place

-- the work, where the transform has done it
abbrev pub outcome : Bool → Work → Option Work
outcome true w = Some w
outcome false w = None

-- the chain that an operation's transforms work on and write to
abbrev pub target_of : {C : Type 0} → Op C → List Buffer
target_of op = op.chain

abbrev pub with_target : {C : Type 0} → Op C → List Buffer → Op C
with_target op chain = record op { chain = chain }

-- the chain has another packet of this length, and is else as it was
abbrev pub IsWritten : List Buffer → List Buffer → Type 0
IsWritten before after = (after ≡ with_packet before (packet_of after)) × (length (packet_of after) ≡ length (packet_of before))

-- the operation with an answer's packet and digest field
abbrev pub with_answer : {C : Type 0} → Op C → Answer → Op C
with_answer op a = record op { spec = record op.spec { digest = a.digest }; chain = with_packet op.chain a.packet }
