-- The capture that a count and a number generate. Draws come from a state, which begins as the number.
use Rattle.std.specs.Prelude.{ℕ, zero, suc, ◌+◌, ◌*◌, ◌/◌, ◌%◌, ◌^◌, ◌==◌, false, List, [], ◌∷◌, ◌++◌, map, slice_set, if◌then◌else◌}
use Rattle.capture_io.specs.declared.header.Header.{Header}
use Rattle.capture_io.specs.Capture.{Rec, header_bytes, record_bytes}

-- the state behind a draw
abbrev pub next_state : ℕ → ℕ
next_state x = (x * 6364136223846793005 + 1442695040888963407) % 2 ^ 64

-- the state behind n draws
unfoldable pub state_after : ℕ → ℕ → ℕ
state_after zero x = x
state_after (suc n) x = state_after n (next_state x)

-- what a draw gives: the high bits of the state behind it
abbrev pub given : ℕ → ℕ
given x = next_state x / 2 ^ 33

-- what n draws give
unfoldable pub draws : ℕ → ℕ → List ℕ
draws zero x = []
draws (suc n) x = given x ∷ draws n (next_state x)

-- a packet's length, by one draw
abbrev pub drawn_length : ℕ → ℕ
drawn_length x = 60 + given x % 1455

-- as many bytes, by a draw each
abbrev pub drawn_bytes : ℕ → ℕ → List ℕ
drawn_bytes n x = map (λ v. v % 256) (draws n x)

-- what makes packet i one of IPv4 with UDP, or with TCP each fourth time
abbrev pub protocol : ℕ → ℕ
protocol i = if i % 4 == 3 then 6 else 17

abbrev pub marked : ℕ → List ℕ → List ℕ
marked i bytes = slice_set (slice_set (slice_set bytes 12 8) 13 0) 23 (protocol i)

-- packet i from a state: a thousand packets a second, a millisecond apart
abbrev pub generated_packet : ℕ → ℕ → List ℕ
generated_packet i x = marked i (drawn_bytes (drawn_length x) (next_state x))

abbrev pub generated_record : ℕ → ℕ → Rec
generated_record i x = record { sec = i / 1000; frac = i % 1000 * 1000; orig = drawn_length x; packet = generated_packet i x }

-- the bytes of n records, from packet i on
unfoldable pub generated_records : (n i x : ℕ) → List ℕ
generated_records zero i x = []
generated_records (suc n) i x = record_bytes false (generated_record i x) ++ generated_records n (i + 1) (state_after (1 + drawn_length x) x)

abbrev pub generated_header : Header
generated_header = record { big = false; nanos = false; zone = 0; sigfigs = 0; snaplen = 262144; link = 1 }

-- the whole capture of n packets
abbrev pub generated : (n number : ℕ) → List ℕ
generated n number = header_bytes generated_header ++ generated_records n 0 number
