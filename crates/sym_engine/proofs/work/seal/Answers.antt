use Rattle.std.proofs.Common.{rules, ◌≡◌, length, take, sym, ap, subst, ◌∙◌, arith}
use Rattle.std.proofs.lemmas.List.{length-take-le}
use Rattle.crypto_model.specs.Aes.{cipher}
use Rattle.crypto_model.specs.Gcm.{gcm_tag}
use Rattle.crypto_model.specs.Process.{with_digest}
use Rattle.mbuf_chain.specs.Chain.{packet_of, with_packet}
use Rattle.crypto_op.specs.declared.spec.OpSpec.{OpSpec}
use Rattle.sym_engine.specs.Working.{place_ready, work_of}
use Rattle.sym_engine.proofs.Written.{written_laid}
use Rattle.sym_engine.proofs.Sealed.{Names, place_kept, turned, same_text, same_laid, sealed}
use Rattle.sym_engine.proofs.work.seal.Goals as goal

pub write_digest-requires-clause-ready : goal.write_digest-requires-clause-ready
write_digest-requires-clause-ready g c =
    let spec = c.args.op.now.spec in
    let chain = c.args.op.now.chain in
    let key = c.args.step.now.key in
    let d = c.seal_range-tag.new.chain in
    let made = c.seal_range-tag.ensures c.key.result.now c.nonce-iv.result c.bytes-2.result.now c.new-seal.ensures in
    let names : Names spec c.spec-2.result.now key c.key.result.now c.nonce-iv.result chain c.chain_mut.result.now = record {
      spec_is = c.spec-2.ensures;
      key_is = c.key.ensures;
      iv_is = c.nonce-iv.ensures ∙ c.bytes.ensures.bytes ∙ ap (λ (s : OpSpec). s.iv) c.spec.ensures;
      chain_is = c.chain_mut.ensures.chain;
    } in
    let text = same_laid spec c.spec-2.result.now key c.key.result.now c.nonce-iv.result chain c.chain_mut.result.now d names made.0 in
    let size : length c.seal_range-tag.result ≡ 16 = search rules in
    let long : length (take c.tag_len-n.result c.seal_range-tag.result) ≡ c.args.step.now.tag_len =
    length-take-le c.tag_len-n.result c.seal_range-tag.result (omega (arith, c.tag_len-n.ensures.most, size)) ∙ c.tag_len-n.ensures.value in
    let kept = (written_laid chain d spec.cipher.off (turned key spec chain) text).1.1 in
    subst (λ (s : OpSpec). place_ready (length (take c.tag_len-n.result c.seal_range-tag.result)) (packet_of c.chain_mut-2.result.now) s.place) (sym c.spec-3.ensures)
    (place_kept _ c.args.step.now.tag_len (packet_of chain) (packet_of c.chain_mut-2.result.now) spec.place long (ap (λ x. length (packet_of x)) c.chain_mut-2.ensures.chain ∙ kept) c.requires.2)

pub returns : goal.returns
returns g c =
    let spec = c.args.op.now.spec in
    let chain = c.args.op.now.chain in
    let step = c.args.step.now in
    let key = step.key in
    let n = c.tag_len-n.result in
    let tag = c.seal_range-tag.result in
    let d = c.seal_range-tag.new.chain in
    let e = c.write_digest.new.chain in
    let digest = c.args.digest.now in
    let after = c.write_digest.new.digest in
    let made = c.seal_range-tag.ensures c.key.result.now c.nonce-iv.result c.bytes-2.result.now c.new-seal.ensures in
    let names : Names spec c.spec-2.result.now key c.key.result.now c.nonce-iv.result chain c.chain_mut.result.now = record {
      spec_is = c.spec-2.ensures;
      key_is = c.key.ensures;
      iv_is = c.nonce-iv.ensures ∙ c.bytes.ensures.bytes ∙ ap (λ (s : OpSpec). s.iv) c.spec.ensures;
      chain_is = c.chain_mut.ensures.chain;
    } in
    let text = same_laid spec c.spec-2.result.now key c.key.result.now c.nonce-iv.result chain c.chain_mut.result.now d names made.0 in
    let tag_is : tag ≡ gcm_tag (cipher key) spec.iv spec.aad (turned key spec chain) =
    made.1 ∙ ap (gcm_tag (cipher c.key.result.now) c.nonce-iv.result c.bytes-2.result.now) (same_text spec c.spec-2.result.now key c.key.result.now c.nonce-iv.result chain c.chain_mut.result.now names)
    ∙ ap (λ k. gcm_tag (cipher k) c.nonce-iv.result c.bytes-2.result.now (turned key spec chain)) names.key_is
    ∙ ap (λ v. gcm_tag (cipher key) v c.bytes-2.result.now (turned key spec chain)) names.iv_is
    ∙ ap (λ a. gcm_tag (cipher key) spec.iv a (turned key spec chain)) (c.bytes-2.ensures.bytes ∙ ap (λ (s : OpSpec). s.aad) c.spec-4.ensures) in
    let code = take n tag in
    let code_is : code ≡ take step.tag_len tag = ap (λ k. take k tag) c.tag_len-n.ensures.value in
    let place = c.spec-3.result.now.place in
    let chain_is : e ≡ with_packet d (with_digest spec.place code (work_of d digest)).packet =
    c.write_digest.ensures.chain
    ∙ ap (λ x. with_packet x (with_digest place code (work_of x digest)).packet) c.chain_mut-2.ensures.chain
    ∙ ap (λ (s : OpSpec). with_packet d (with_digest s.place code (work_of d digest)).packet) c.spec-3.ensures in
    let after_is : after ≡ (with_digest spec.place code (work_of d digest)).digest =
    c.write_digest.ensures.digest
    ∙ ap (λ x. (with_digest place code (work_of x digest)).digest) c.chain_mut-2.ensures.chain
    ∙ ap (λ (s : OpSpec). (with_digest s.place code (work_of d digest)).digest) c.spec-3.ensures in
    record {
      works = λ p. (sealed spec p key step.tag_len step.aad_len chain d e digest after code tag text tag_is code_is chain_is after_is).0;
      kept = search rules;
      written = (sealed spec (packet_of chain) key step.tag_len step.aad_len chain d e digest after code tag text tag_is code_is chain_is after_is).1;
    }
