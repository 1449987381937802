use Rattle.std.proofs.Common.{◌≡◌, ◌≤◌, ◌<◌, ◌+◌, ◌^◌, ◌++◌, List, ℕ, length}
use Rattle.std.specs.List.{All}
use Rattle.capture_io.specs.Capture.{Rec}
use Rattle.capture_io.specs.Limits.{IsPlaced, IsSmall}
use Rattle.packet_flow.specs.Reads.{HasRead}
use Rattle.packet_flow.specs.Window.{views}
use Rattle.packet_flow.proofs.window.read_behind.Given as goal

abbrev pub invariant-loop-n : goal.invariant-loop-n
invariant-loop-n g l = record {
  place : IsPlaced l.place;
  range : l.place.records < 2 ^ 32;
  small : All IsSmall l.waiting.items;
  grown : (more : List Rec) × (views l.waiting.items ≡ views l.fn.waiting.items ++ more) × (length more ≡ l._n);
  count : l.fn.place.records + length l.waiting.items ≡ l.place.records + length l.fn.waiting.items;
  read : g.S.Source.tells → (bytes : List ℕ) (given : List Rec) → HasRead l.header.big bytes (given ++ views l.fn.waiting.items) l.fn.place (g.S.Source.left l.fn.src)
      → HasRead l.header.big bytes (given ++ views l.waiting.items) l.place (g.S.Source.left l.src);
  later : g.S.Source.faults l.fn.src ≤ g.S.Source.faults l.src;
}
