-- What is known of a source and a sink in memory.
use Rattle.std.specs.Prelude.{ℕ, List, drop}
use Rattle.capture_io.specs.declared.memory.MemSource.{MemSource}
use Rattle.capture_io.specs.declared.memory.MemSink.{MemSink}

-- the bytes that reads will give
abbrev pub bytes_left : MemSource → List ℕ
bytes_left s = drop s.at s.bytes.items

-- the most bytes that one read gives
abbrev pub read_piece : MemSource → ℕ
read_piece s = s.piece

-- the number of the next read, and the numbers of the reads that fail
abbrev pub next_read : MemSource → ℕ
next_read s = s.calls

abbrev pub failing_reads : MemSource → List ℕ
failing_reads s = s.fails.items

abbrev pub read_faults : MemSource → ℕ
read_faults s = s.faults

abbrev pub bytes_written : MemSink → List ℕ
bytes_written k = k.bytes.items

-- how many bytes the sink takes in all
abbrev pub sink_cap : MemSink → ℕ
sink_cap k = k.cap

-- the number of the next write, and the numbers of the writes that fail
abbrev pub next_write : MemSink → ℕ
next_write k = k.calls

abbrev pub failing_writes : MemSink → List ℕ
failing_writes k = k.fails.items

abbrev pub write_faults : MemSink → ℕ
write_faults k = k.faults
