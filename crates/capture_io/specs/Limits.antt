-- What bounds a capture and its records.
use Rattle.std.specs.Prelude.{◌≤◌, ◌+◌, ◌*◌, length}
use Rattle.mbuf_chain.specs.Chain.{packet_of}
use Rattle.capture_io.specs.declared.header.Place.{Place}
use Rattle.capture_io.specs.declared.header.Record.{Record}
use Rattle.capture_io.specs.declared.reading.TheConstants.{MAX_CAPTURED}

-- each record before this place takes 16 bytes and those of its packet
abbrev pub IsPlaced : Place → Type 0
IsPlaced place = place.at ≤ 24 + (16 + MAX_CAPTURED) * place.records

-- the limits that each record keeps which was read
pub record IsSmall (r : Record) : Type 0 where
  pub captured : length (packet_of r.packet) ≤ MAX_CAPTURED
  pub original : r.orig ≤ 4294967231
  pub segments : length r.packet ≤ 129
