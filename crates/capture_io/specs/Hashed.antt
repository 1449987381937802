-- What a sink that hashes has taken.
use Rattle.std.specs.Prelude.{ℕ, List}
use Rattle.capture_io.specs.declared.hash.HashSink.{HashSink}

abbrev pub hashed : HashSink → List ℕ
hashed k = k.text.numbers

-- no write fails
abbrev pub hashing_faults : HashSink → ℕ
hashing_faults k = 0
