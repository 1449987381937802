use Rattle.std.proofs.Common.{◌≡◌, ◌≢◌, ◌/◌, ◌*◌, ◌++◌, ◌∙◌, ap, length, arith, refl, subst}
use Rattle.std.proofs.lemmas.Bool.Decides.{nat_tests}
use Rattle.crypto_model.specs.Gcm.{bits_128, ghash_from}
use Rattle.gcm_core.specs.Subkey.{subkey}
use Rattle.gcm_core.specs.Hashing.{IsHashed}
use Rattle.gcm_core.proofs.HashedText.{nothing_more, three_parts, whole_blocks}
use Rattle.gcm_core.proofs.hash.Ghash.feed.Goals as goal

pub returns-then-is_empty : goal.returns-then-is_empty
returns-then-is_empty c = λ key text h.
    let parts = c.split_at.ensures.by_index.0 in
    nothing_more key text c.args.piece.now _ c.split_at.result.1.now c.hold.new.self parts (grind (arith, nat_tests)) (c.hold.ensures.hashed key text h)

pub returns : goal.returns
returns c = λ key text h.
    let begun = c.split_at.result.0.now in
    let rest = c.split_at.result.1.now in
    let some : length rest ≢ 0 = grind (arith, nat_tests) in
    let none : c.hold.new.self.held ≡ 0 = omega (arith, c.hold.ensures.held, c.min-left.ensures, c.split_at.ensures.front_len, c.split_at.ensures.back_len) in
    let hashed = c.ghash-self.ensures ∙ ap (ghash_from (subkey c.hold.new.self.key.now) (bits_128 c.hold.new.self.sum)) c.as_chunks.ensures.front in
    let whole = whole_blocks c.hold.new.self _ rest refl none refl hashed key (text ++ begun) (c.hold.ensures.hashed key text h) in
    subst (IsHashed key c.hold-2.new.self) (three_parts text c.args.piece.now begun rest _ (length rest / 16 * 16) c.split_at.ensures.by_index.0 c.as_chunks.ensures.back)
    (c.hold-2.ensures.hashed key _ whole)
