use Rattle.std.proofs.Common.{◌∙◌, ◌++◌, ap, replicate}
use Rattle.crypto_model.specs.Gcm.{bytes_of, padded, ghash_from}
use Rattle.gcm_core.specs.Subkey.{subkey}
use Rattle.gcm_core.proofs.TaggedText.{hashed_is, hashed_whole, tag_is}
use Rattle.gcm_core.proofs.tag.TagState.finish.Goals as goal

pub returns : goal.returns
returns c = λ key iv aad text before.
    let first = c.to_be_bytes in
    let second = c.to_be_bytes-2 in
    let fed = c.feed-2.ensures key _ (c.feed.ensures key _ (c.fill.ensures key _ before.hashed)) in
    let sum = c.finish-tag.ensures key _ fed (hashed_whole (padded aad ++ text) first.result second.result _ _ first.ensures second.ensures) in
    let blocks = hashed_is aad text first.result second.result _ _ before.aad_len before.text_len first.ensures second.ensures in
    tag_is key iv aad text c.args.self.mask c.finish-tag.result _ before.mask (sum ∙ ap (λ bs. bytes_of (ghash_from (subkey key) (replicate 128 0) bs)) blocks) c.xor_block.ensures
