use Rattle.std.proofs.Common.{rules, ◌≡◌, [], length, take, true, sym, ap, ◌∙◌, arith}
use Rattle.std.proofs.lemmas.List.{length-take-le}
use Rattle.std.specs.Prelude.{bytes_eq}
use Rattle.crypto_model.specs.Aes.{cipher}
use Rattle.crypto_model.specs.Gcm.{gcm_tag}
use Rattle.crypto_model.specs.Process.{bytes_in, digest_at}
use Rattle.mbuf_chain.specs.Chain.{packet_of}
use Rattle.crypto_op.specs.declared.spec.OpSpec.{OpSpec}
use Rattle.sym_engine.specs.Working.{work_of}
use Rattle.sym_engine.proofs.Written.{written_none}
use Rattle.sym_engine.proofs.Sealed.{Names, same_laid, opened}
use Rattle.sym_engine.proofs.work.open.Goals as goal

pub returns-in-Ok : goal.returns-in-Ok
returns-in-Ok g c =
    let spec = c.args.op.now.spec in
    let chain = c.args.op.now.chain in
    let step = c.args.step.now in
    let key = step.key in
    let n = c.tag_len-n.result in
    let d = c.work_on.new.chain in
    let digest = c.args.digest.now in
    let iv_is = c.nonce-iv.ensures ∙ c.bytes.ensures.bytes ∙ ap (λ (s : OpSpec). s.iv) c.spec.ensures in
    let found = c.in-Ok.ensures c.key.result.now c.nonce-iv.result c.bytes-2.result.now c.new-ciphertext.ensures in
    let names : Names spec c.spec-2.result.now key c.key.result.now c.nonce-iv.result chain c.chain_mut.result.now = record {
      spec_is = c.spec-2.ensures;
      key_is = c.key.ensures;
      iv_is = iv_is;
      chain_is = c.chain_mut.ensures.chain;
    } in
    let text = same_laid spec c.spec-2.result.now key c.key.result.now c.nonce-iv.result chain c.chain_mut.result.now d names
    ((c.work_on.ensures c.key.result.now c.nonce-iv.result [] found.1).1) in
    let long : length c.read_digest-tag.result ≡ 64 = search rules in
    let size : length (take n c.read_digest-tag.result) ≡ n = length-take-le n c.read_digest-tag.result (omega (arith, c.tag_len-n.ensures.most, long)) in
    let read : take n c.read_digest-tag.result ≡ digest_at spec.place step.tag_len (work_of chain digest) =
    c.read_digest-tag.ensures
    ∙ ap (λ x. digest_at c.spec-3.result.now.place n (work_of x digest)) c.chain.ensures
    ∙ ap (λ (s : OpSpec). digest_at s.place n (work_of chain digest)) c.spec-3.ensures
    ∙ ap (λ k. digest_at spec.place k (work_of chain digest)) c.tag_len-n.ensures.value in
    let tag : gcm_tag (cipher c.key.result.now) c.nonce-iv.result c.bytes-2.result.now (bytes_in c.spec-2.result.now.cipher (packet_of c.chain-2.result.now))
    ≡ gcm_tag (cipher key) spec.iv spec.aad (bytes_in spec.cipher (packet_of chain)) =
    ap (λ k. gcm_tag (cipher k) c.nonce-iv.result c.bytes-2.result.now (bytes_in c.spec-2.result.now.cipher (packet_of c.chain-2.result.now))) c.key.ensures
    ∙ ap (λ v. gcm_tag (cipher key) v c.bytes-2.result.now (bytes_in c.spec-2.result.now.cipher (packet_of c.chain-2.result.now))) iv_is
    ∙ ap (λ a. gcm_tag (cipher key) spec.iv a (bytes_in c.spec-2.result.now.cipher (packet_of c.chain-2.result.now))) (c.bytes-2.ensures.bytes ∙ ap (λ (s : OpSpec). s.aad) c.spec-4.ensures)
    ∙ ap (λ (s : OpSpec). gcm_tag (cipher key) spec.iv spec.aad (bytes_in s.cipher (packet_of c.chain-2.result.now))) c.spec-2.ensures
    ∙ ap (λ x. gcm_tag (cipher key) spec.iv spec.aad (bytes_in spec.cipher (packet_of x))) c.chain-2.ensures in
    let wanted = gcm_tag (cipher key) spec.iv spec.aad (bytes_in spec.cipher (packet_of chain)) in
    let holds : bytes_eq (digest_at spec.place step.tag_len (work_of chain digest)) (take step.tag_len wanted) ≡ true =
    sym (found.0 ∙ ap (λ t. bytes_eq (take n c.read_digest-tag.result) (take (length (take n c.read_digest-tag.result)) t)) tag
    ∙ ap (λ k. bytes_eq (take n c.read_digest-tag.result) (take k wanted)) (size ∙ c.tag_len-n.ensures.value)
    ∙ ap (λ ys. bytes_eq ys (take step.tag_len wanted)) read) in
    record {
      works = λ p. (opened spec p key step.tag_len step.aad_len chain d digest holds text).0;
      kept = search rules;
      written = (opened spec (packet_of chain) key step.tag_len step.aad_len chain d digest holds text).1;
      unless = λ e. (cc);
    }

pub returns-in-Err-clause-written : goal.returns-in-Err-clause-written
returns-in-Err-clause-written g c = written_none c.args.op.now.chain
