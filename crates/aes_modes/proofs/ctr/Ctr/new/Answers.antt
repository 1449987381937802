use Rattle.std.proofs.Common.{◌≡◌, refl, arith}
use Rattle.crypto_model.specs.Modes.{counter_of}
use Rattle.aes_modes.specs.Counters.{key_stream}
use Rattle.aes_modes.proofs.ctr.Ctr.new.Goals as goal

pub returns : goal.returns
unfolding counter_of key_stream
returns c =
    let small : c.from_be_bytes.result ≡ counter_of c.args.counter = rw (← c.from_be_bytes.ensures) (omega arith) in
    record { begun = 0; same_key = refl; counter = rw (← small) (omega arith); within = omega arith; left = refl }
