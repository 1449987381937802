use Rattle.std.proofs.Common.{◌≡◌, ◌∙◌, length, take, refl, arith, rules, length-append, length-take}
use Rattle.gcm_core.proofs.HashedText.{block_written, blocks_more, held_more, held_written}
use Rattle.gcm_core.proofs.hash.Ghash.hold.Goals as goal

pub returns-then-end-lt16 : goal.returns-then-end-lt16
returns-then-end-lt16 c =
    let state = c.args.self.now in
    let bytes = c.args.bytes.now in
    let long : length state.block ≡ 16 = search rules in
    record {
      hashed = held_more state _ bytes refl refl (held_written state.held _ _ state.block bytes _ c.copy_from_slice.ensures.after refl (omega (arith, long)));
      held = omega arith;
    }

pub returns : goal.returns
returns c =
    let state = c.args.self.now in
    let bytes = c.args.bytes.now in
    let long : length state.block ≡ 16 = search rules in
    record {
      hashed = blocks_more state _ bytes refl refl (omega (arith, length-append (take state.held state.block) bytes, length-take state.held state.block))
          (c.ghash-self.ensures ∙ block_written _ _ state.held _ state.block bytes _ c.copy_from_slice.ensures.after (omega arith) (omega arith) long);
      held = omega arith;
    }
