use Rattle.std.proofs.Common.{◌≡◌, length, take}
use Rattle.capture_io.specs.Generated.{drawn_bytes, state_after}
use Rattle.capture_io.proofs.drawn.draw_bytes.Given as goal

abbrev pub invariant-loop-i : goal.invariant-loop-i
invariant-loop-i l = record {
  bytes : take l.i l.bytes ≡ drawn_bytes l.i l.before;
  length : length l.bytes ≡ length l.fn.bytes;
  state : l.state ≡ state_after l.i l.before;
}
