-- Packets as a window gives them.
use Rattle.std.specs.Prelude.{◌∷◌, Option, Some, None, Result, Ok, Err}
use Rattle.capture_io.specs.Capture.{view}
use Rattle.capture_io.specs.declared.header.ReadStop.{ReadStop}
use Rattle.packet_flow.specs.declared.window.Packet.{Packet}
use Rattle.packet_flow.specs.Numbered.{Numbered}
use Rattle.packet_flow.specs.Window.{Ahead}

abbrev pub numbered_view : Packet → Numbered
numbered_view p = record { number = p.number; rec = view p.rec }

-- the window before this packet was taken from its front
abbrev pub put_back : Packet → Ahead → Ahead
put_back p w = record { next = p.number; waiting = view p.rec ∷ w.waiting; place = w.place; stop = w.stop }

-- the same, where one was taken
abbrev pub with_given : Option Packet → Ahead → Ahead
with_given None w = w
with_given (Some p) w = put_back p w

-- what a read of one record gave, and why it gave none
abbrev pub given_of : Result Packet ReadStop → Option Packet
given_of (Ok p) = Some p
given_of (Err stop) = None

abbrev pub stop_of : Result Packet ReadStop → Option ReadStop
stop_of (Ok p) = None
stop_of (Err stop) = Some stop
