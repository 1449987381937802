-- The classic capture format of libpcap: a header of 24 bytes, and then records.
use Rattle.std.specs.Prelude.{◌≡◌, ◌<◌, ◌+◌, ◌==◌, ℕ, Bool, true, false, List, [], ◌∷◌, ◌++◌, length, take, drop, Option, Some, None, Result, Ok, Err, nat_lt, if◌then◌else◌}
use Rattle.byteorder.specs.Endian.{big_number, little_number, big_bytes, little_bytes}
use Rattle.mbuf_chain.specs.Chain.{packet_of}
use Rattle.capture_io.specs.declared.reading.TheConstants.{MAX_CAPTURED}
use Rattle.capture_io.specs.declared.header.Header.{Header}
use Rattle.capture_io.specs.declared.header.Place.{Place}
use Rattle.capture_io.specs.declared.header.Record.{Record}
use Rattle.capture_io.specs.declared.header.CaptureCause.{CaptureCause}
use Rattle.capture_io.specs.declared.header.RecordHead.{RecordHead}
use Rattle.capture_io.specs.declared.header.ReadStop.{ReadStop}
use Rattle.capture_io.specs.declared.header.ReadStop.TheVariants.{Fault, BadCapture, TooLarge, OutOfMemory}
use Rattle.capture_io.specs.declared.header.CaptureCause.TheVariants.{ShortHeader, BadMagic, BadVersion, ShortRecord, ShortData}

-- the number of n bytes, in either order, at the front of a list
abbrev pub number : Bool → ℕ → List ℕ → ℕ
number big n bytes = if big then big_number n bytes else little_number n bytes

-- the n bytes of a number, in either order
abbrev pub spelled : Bool → ℕ → ℕ → List ℕ
spelled big n x = if big then big_bytes n x else little_bytes n x

-- a record without how its packet lies in segments
pub record Rec : Type 0 where
  pub sec : ℕ
  pub frac : ℕ
  pub orig : ℕ
  pub packet : List ℕ

-- what a record in memory says
abbrev pub view : Record → Rec
view r = record { sec = r.sec; frac = r.frac; orig = r.orig; packet = packet_of r.packet }

-- why no record can be read: the capture ends, is not whole from a place on, or holds one that passes a limit
pub data Rest : Type 0 where
  End : Rest
  Bad : ℕ → CaptureCause → Rest
  Large : ℕ → Rest

-- the byte order and the unit of the fractions that the first four bytes say
abbrev pub magic_of : ℕ → Option (Bool × Bool)
magic_of n =
    if n == 0xa1b2c3d4 then Some (true, false)
    else if n == 0xa1b23c4d then Some (true, true)
    else if n == 0xd4c3b2a1 then Some (false, false)
    else if n == 0x4d3cb2a1 then Some (false, true)
    else None

-- the version and the fields behind it
abbrev pub fields : Bool → Bool → List ℕ → Result Header (ℕ × CaptureCause)
fields big nanos bytes =
    if number big 2 (drop 4 bytes) == 2 then
    (if number big 2 (drop 6 bytes) == 4 then
    Ok (record {
      big = big;
      nanos = nanos;
      zone = number big 4 (drop 8 bytes);
      sigfigs = number big 4 (drop 12 bytes);
      snaplen = number big 4 (drop 16 bytes);
      link = number big 4 (drop 20 bytes);
    })
    else Err (4, BadVersion))
    else Err (4, BadVersion)

abbrev pub with_magic : Option (Bool × Bool) → List ℕ → Result Header (ℕ × CaptureCause)
with_magic None bytes = Err (0, BadMagic)
with_magic (Some m) bytes = fields m.0 m.1 bytes

-- what 24 bytes say
unfoldable pub header_of : List ℕ → Result Header (ℕ × CaptureCause)
header_of bytes = with_magic (magic_of (big_number 4 bytes)) bytes

-- an answer, and the bytes behind what it was read from
abbrev pub with_rest : {A E : Type 0} → List ℕ → Result A E → Result (A × List ℕ) E
with_rest rest (Ok x) = Ok (x, rest)
with_rest rest (Err e) = Err e

-- the header and the bytes behind it, or the fault
abbrev pub header_at : List ℕ → Result (Header × List ℕ) (ℕ × CaptureCause)
header_at bytes = if nat_lt (length bytes) 24 then Err (0, ShortHeader) else with_rest (drop 24 bytes) (header_of (take 24 bytes))

-- what the 16 bytes before a packet say
abbrev pub head_of : Bool → List ℕ → RecordHead
head_of big bytes = record {
  sec = number big 4 bytes;
  frac = number big 4 (drop 4 bytes);
  captured = number big 4 (drop 8 bytes);
  orig = number big 4 (drop 12 bytes);
}

-- the first limit that a record passes, by the number that passes it
abbrev pub limit_of : ℕ → RecordHead → Option ℕ
limit_of records h =
    if nat_lt MAX_CAPTURED h.captured then Some h.captured
    else if nat_lt 4294967231 h.orig then Some h.orig
    else if records == 4294967295 then Some 4294967296
    else None

-- a packet behind its 16 bytes, unless the record passes a limit
abbrev pub packet_at : Place → RecordHead → List ℕ → Option ℕ → Result (Rec × List ℕ) Rest
packet_at place h bytes (Some value) = Err (Large value)
packet_at place h bytes None =
    if nat_lt (length bytes) h.captured then Err (Bad place.at ShortData)
    else Ok (record { sec = h.sec; frac = h.frac; orig = h.orig; packet = take h.captured bytes }, drop h.captured bytes)

-- the record and the bytes behind it, or why none stands here
abbrev pub record_at : Bool → Place → List ℕ → Result (Rec × List ℕ) Rest
record_at big place bytes =
    if length bytes == 0 then Err End
    else if nat_lt (length bytes) 16 then Err (Bad place.at ShortRecord)
    else packet_at place (head_of big (take 16 bytes)) (drop 16 bytes) (limit_of place.records (head_of big (take 16 bytes)))

-- why a read of a header stopped
abbrev pub StopsHeader : List ℕ → ReadStop → Type 0
StopsHeader bytes Fault = Unit {0}
StopsHeader bytes (BadCapture at cause) = header_at bytes ≡ Err (at, cause)
StopsHeader bytes _ = ⊥

-- the places and causes of headers that are not whole
abbrev pub IsHeaderFault : ℕ → CaptureCause → Type 0
IsHeaderFault at ShortHeader = at ≡ 0
IsHeaderFault at BadMagic = at ≡ 0
IsHeaderFault at BadVersion = at ≡ 4
IsHeaderFault at _ = ⊥

-- why a read of a header can stop, whatever the bytes
abbrev pub CanStopHeader : ReadStop → Type 0
CanStopHeader Fault = Unit {0}
CanStopHeader (BadCapture at cause) = IsHeaderFault at cause
CanStopHeader _ = ⊥

-- why a read of a packet of this length stopped
abbrev pub StopsPacket : ℕ → ℕ → List ℕ → ReadStop → Type 0
StopsPacket len at bytes (BadCapture place cause) = (place ≡ at) × (cause ≡ ShortData) × (length bytes < len)
StopsPacket len at bytes Fault = Unit {0}
StopsPacket len at bytes OutOfMemory = Unit {0}
StopsPacket len at bytes _ = ⊥

abbrev pub CanStopPacket : ℕ → ReadStop → Type 0
CanStopPacket at (BadCapture place cause) = (place ≡ at) × (cause ≡ ShortData)
CanStopPacket at Fault = Unit {0}
CanStopPacket at OutOfMemory = Unit {0}
CanStopPacket at _ = ⊥

-- why a read of a record stopped
abbrev pub StopsRecord : Bool → Place → List ℕ → ReadStop → Type 0
StopsRecord big place bytes ReadStop.End = record_at big place bytes ≡ Err End
StopsRecord big place bytes (BadCapture at cause) = record_at big place bytes ≡ Err (Bad at cause)
StopsRecord big place bytes (TooLarge value) = record_at big place bytes ≡ Err (Large value)
StopsRecord big place bytes Fault = Unit {0}
StopsRecord big place bytes OutOfMemory = Unit {0}

abbrev pub IsRecordCause : CaptureCause → Type 0
IsRecordCause ShortRecord = Unit {0}
IsRecordCause ShortData = Unit {0}
IsRecordCause _ = ⊥

-- why a read of the record at this place can stop, whatever the bytes
abbrev pub CanStopRecord : ℕ → ReadStop → Type 0
CanStopRecord at (BadCapture place cause) = (place ≡ at) × IsRecordCause cause
CanStopRecord at (TooLarge value) = MAX_CAPTURED < value
CanStopRecord at _ = Unit {0}

-- the place behind a record
abbrev pub behind : Place → Rec → Place
behind place r = record { at = place.at + (16 + length r.packet); records = place.records + 1 }

-- From a place on, the bytes are these whole records and then this rest.
abbrev pub Records : Bool → Place → List ℕ → List Rec → Rest → Type 0
Records big place bytes [] rest = record_at big place bytes ≡ Err rest
Records big place bytes (r ∷ rs) rest =
    (more : List ℕ) × (record_at big place bytes ≡ Ok (r, more)) × Records big (behind place r) more rs rest

-- the place behind the header
abbrev pub first_place : Place
first_place = record { at = 24; records = 0 }

-- what a capture is: bytes with no header, or a header, the records behind it, and why no more can be read
pub data Reading : Type 0 where
  NoHeader : ℕ → CaptureCause → Reading
  Holds : Header → List Rec → Rest → Reading

abbrev pub IsReading : List ℕ → Reading → Type 0
IsReading bytes (NoHeader at cause) = header_at bytes ≡ Err (at, cause)
IsReading bytes (Holds h rs rest) = (more : List ℕ) × (header_at bytes ≡ Ok (h, more)) × Records h.big first_place more rs rest

-- how a header and a record are written
abbrev pub magic_number : Bool → ℕ
magic_number nanos = if nanos then 0xa1b23c4d else 0xa1b2c3d4

abbrev pub header_bytes : Header → List ℕ
header_bytes h = spelled h.big 4 (magic_number h.nanos) ++ spelled h.big 2 2 ++ spelled h.big 2 4
    ++ spelled h.big 4 h.zone ++ spelled h.big 4 h.sigfigs ++ spelled h.big 4 h.snaplen ++ spelled h.big 4 h.link

abbrev pub record_bytes : Bool → Rec → List ℕ
record_bytes big r = spelled big 4 r.sec ++ spelled big 4 r.frac ++ spelled big 4 (length r.packet) ++ spelled big 4 r.orig ++ r.packet
