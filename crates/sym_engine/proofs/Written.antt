-- A packet written into a chain.
use Rattle.std.proofs.Common.{◌≡◌, ℕ, List, length, refl, sym, ap, ◌∙◌}
use Rattle.crypto_model.specs.Chain.{laid_at}
use Rattle.crypto_model.proofs.Laid.{length-laid_at}
use Rattle.crypto_model.proofs.Processed.{length-with_digest}
use Rattle.crypto_model.specs.declared.plain.DigestPlace.{DigestPlace}
use Rattle.crypto_model.specs.Process.{Work, with_digest}
use Rattle.seg_list.specs.Buffer.{Buffer}
use Rattle.mbuf_chain.specs.Chain.{packet_of, with_packet}
use Rattle.mbuf_chain.proofs.Chains.{packet_of-with_packet, with_packet-again, with_packet-own}
use Rattle.sym_engine.specs.Working.{IsWritten, work_of}

pub written_by : (c d : List Buffer) (p : List ℕ) → d ≡ with_packet c p → length p ≡ length (packet_of c) → (packet_of d ≡ p) × IsWritten c d
written_by c d p e n =
    let is : packet_of d ≡ p = ap packet_of e ∙ packet_of-with_packet c p n in
    (is, (e ∙ ap (λ ys. with_packet c ys) (sym is), ap length is ∙ n))

pub written_none : (c : List Buffer) → IsWritten c c
written_none c = (sym (with_packet-own c), refl)

pub written_twice : (c d e : List Buffer) → IsWritten c d → IsWritten d e → IsWritten c e
written_twice c d e h g = (g.0 ∙ ap (λ x. with_packet x (packet_of e)) h.0 ∙ with_packet-again c (packet_of d) (packet_of e) h.1, g.1 ∙ h.1)

pub written_laid : (c d : List Buffer) (i : ℕ) (ys : List ℕ) → d ≡ with_packet c (laid_at i ys (packet_of c)) → (packet_of d ≡ laid_at i ys (packet_of c)) × IsWritten c d
written_laid c d i ys e = written_by c d (laid_at i ys (packet_of c)) e (length-laid_at i ys (packet_of c))

-- a digest written into chain or field, which is another's
pub digest_written : (place : DigestPlace) (code wanted : List ℕ) (c d : List Buffer) (digest after : List ℕ) → code ≡ wanted
    → d ≡ with_packet c (with_digest place code (work_of c digest)).packet → after ≡ (with_digest place code (work_of c digest)).digest
    → (with_digest place wanted (work_of c digest) ≡ work_of d after) × IsWritten c d
digest_written place code wanted c d digest after same e f =
    let w = with_digest place code (work_of c digest) in
    let g = written_by c d w.packet e (length-with_digest place code (work_of c digest)) in (
      ap (λ ys. with_digest place ys (work_of c digest)) (sym same)
          ∙ ap (λ (ys : List ℕ). let r : Work = record { packet = ys; digest = w.digest } in r) (sym g.0)
          ∙ ap (λ (ys : List ℕ). let r : Work = record { packet = packet_of d; digest = ys } in r) (sym f),
      g.1,
    )
