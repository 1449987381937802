use Rattle.std.proofs.Common.{subst, sym}
use Rattle.crypto_model.specs.Aes.{cipher}
use Rattle.gcm_core.specs.Tagging.{IsTagging}
use Rattle.gcm_core.proofs.KeyStreams.{gcm_text-none}
use Rattle.gcm_core.proofs.seal.GcmSeal.new.Goals as goal

pub returns : goal.returns
returns c =
    let key = c.args.key.now in
    let iv = c.args.iv in
    let same = c.cipher_key.ensures in
    let begun = c.new.ensures iv (rw same at c.begin.ensures.mask) in
    record {
      fed = rw same at c.begin.ensures.stream;
      tagging = subst (IsTagging key iv c.args.aad.now c.new.result) (sym (gcm_text-none (cipher key) iv)) begun;
    }
