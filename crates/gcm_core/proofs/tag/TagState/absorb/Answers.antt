use Rattle.std.proofs.Common.{arith, append_assoc, length-append, subst}
use Rattle.crypto_model.specs.Gcm.{padded}
use Rattle.gcm_core.specs.Hashing.{IsHashed}
use Rattle.gcm_core.proofs.tag.TagState.absorb.Goals as goal

pub returns : goal.returns
returns c = λ key iv aad text before.
    let piece = c.args.piece.now in
    record {
      mask = before.mask;
      aad_len = before.aad_len;
      text_len = omega (arith, before.text_len, length-append text piece);
      hashed = subst (IsHashed key c.feed.new.self) (append_assoc (padded aad) text piece) (c.feed.ensures key _ before.hashed);
    }
