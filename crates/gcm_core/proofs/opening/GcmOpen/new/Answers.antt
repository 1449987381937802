use Rattle.gcm_core.proofs.opening.GcmOpen.new.Goals as goal

pub returns : goal.returns
returns c =
    let same = c.cipher_key.ensures in
    record { fresh = rw same at c.begin.ensures.stream; tagging = c.new.ensures c.args.iv (rw same at c.begin.ensures.mask) }
