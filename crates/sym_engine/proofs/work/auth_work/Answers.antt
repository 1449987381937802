use Rattle.std.proofs.Common.{◌≡◌, ◌≤◌, ℕ, List, take, refl, sym, ap, ◌∙◌, arith}
use Rattle.std.proofs.lemmas.List.{take-take}
use Rattle.std.specs.Prelude.{Option, Some}
use Rattle.crypto_model.specs.Hmac.{hmac_of}
use Rattle.crypto_model.specs.Process.{Work, bytes_in, with_digest}
use Rattle.crypto_model.specs.declared.plain.Act.TheVariants.{Generate}
use Rattle.mbuf_chain.specs.Chain.{packet_of, with_packet}
use Rattle.crypto_op.specs.declared.spec.OpSpec.{OpSpec}
use Rattle.sym_engine.specs.Working.{work_of}
use Rattle.sym_engine.proofs.Written.{digest_written, written_none}
use Rattle.sym_engine.proofs.work.auth_work.Goals as goal

-- the first n bytes of a code, as the longer list begins
cut : (n len m : ℕ) (bytes code : List ℕ) → n ≤ len → n ≡ m → take len bytes ≡ code → take n bytes ≡ take m code
cut n len m bytes code few is value = sym (take-take n len bytes few) ∙ ap (take n) value ∙ ap (λ k. take k code) is

pub returns-in-Generate : goal.returns-in-Generate
returns-in-Generate g c =
    let op = c.args.op.now in
    let step = c.args.step.now in
    let place = c.spec-2.result.now.place in
    let n = c.digest_len-n.result in
    let tag = c.finish-tag.result in
    let text = bytes_in c.spec.result.now.auth (packet_of c.chain.result.now) in
    let value : take tag.len tag.bytes ≡ hmac_of step.hash step.key (bytes_in op.spec.auth (packet_of op.chain)) =
    c.finish-tag.ensures.value step.hash step.key text c.fed-code.ensures
    ∙ ap (λ (s : OpSpec). hmac_of step.hash step.key (bytes_in s.auth (packet_of c.chain.result.now))) c.spec.ensures
    ∙ ap (λ x. hmac_of step.hash step.key (bytes_in op.spec.auth (packet_of x))) c.chain.ensures in
    let size = c.finish-tag.ensures.size step.hash step.key text c.fed-code.ensures in
    let code = take n tag.bytes in
    let same = cut n tag.len step.len tag.bytes _ (omega (arith, size, c.digest_len-n.ensures.most)) c.digest_len-n.ensures.value value in
    let chain : c.write_digest.new.chain ≡ with_packet op.chain (with_digest op.spec.place code (work_of op.chain c.args.digest.now)).packet =
    c.write_digest.ensures.chain
    ∙ ap (λ x. with_packet x (with_digest place code (work_of x c.args.digest.now)).packet) c.chain_mut.ensures.chain
    ∙ ap (λ (s : OpSpec). with_packet op.chain (with_digest s.place code (work_of op.chain c.args.digest.now)).packet) c.spec-2.ensures in
    let digest : c.write_digest.new.digest ≡ (with_digest op.spec.place code (work_of op.chain c.args.digest.now)).digest =
    c.write_digest.ensures.digest
    ∙ ap (λ x. (with_digest place code (work_of x c.args.digest.now)).digest) c.chain_mut.ensures.chain
    ∙ ap (λ (s : OpSpec). (with_digest s.place code (work_of op.chain c.args.digest.now)).digest) c.spec-2.ensures in
    let written = digest_written op.spec.place code _ op.chain c.write_digest.new.chain c.args.digest.now c.write_digest.new.digest same chain digest in
    let act : step.act ≡ Generate = sym c.act.ensures ∙ c.in-Generate.is in
    record {
      works = λ p. rw act (ap (λ (w : Work). let o : Option Work = Some w in o) written.0);
      kept = refl;
      written = written.1;
      unless = λ e. (cc);
    }

pub returns-in-Verify-clause-written : goal.returns-in-Verify-clause-written
returns-in-Verify-clause-written g c = written_none c.args.op.now.chain
