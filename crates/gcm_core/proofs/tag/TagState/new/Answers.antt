use Rattle.std.proofs.Common.{[], arith, refl, subst, sym}
use Rattle.std.proofs.lemmas.List.{append-nil}
use Rattle.crypto_model.specs.Gcm.{padded}
use Rattle.gcm_core.specs.Hashing.{IsHashed}
use Rattle.gcm_core.proofs.tag.TagState.new.Goals as goal

pub returns : goal.returns
returns c = λ iv mask.
    let key = c.args.key.now in
    let aad = c.args.aad.now in
    record {
      mask = mask;
      aad_len = omega arith;
      text_len = refl;
      hashed = subst (IsHashed key c.fill.new.self) (sym (append-nil (padded aad))) (c.fill.ensures key aad (c.feed.ensures key [] c.new-hash.ensures));
    }
