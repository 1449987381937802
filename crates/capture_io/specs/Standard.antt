-- What is known of a source and a sink over std's readers and writers.
use Rattle.std.specs.Prelude.{ℕ}
use Rattle.capture_io.specs.declared.standard.StdSource.{StdSource}
use Rattle.capture_io.specs.declared.standard.StdSink.{StdSink}

abbrev pub reader_of : {R : Type 0} → StdSource R → R
reader_of s = s.reader

-- how many reads have failed
abbrev pub std_read_faults : {R : Type 0} → StdSource R → ℕ
std_read_faults s = s.faults

abbrev pub writer_of : {W : Type 0} → StdSink W → W
writer_of k = k.writer

-- how many writes and flushes have failed
abbrev pub std_write_faults : {W : Type 0} → StdSink W → ℕ
std_write_faults k = k.faults
