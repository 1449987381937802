use Rattle.std.proofs.Common.{◌≡◌, ◌+◌, ◌≤◌, ◌++◌, length, take, drop, map}
use Rattle.std.specs.Vec.{vec_len, vec_capacity}
use Rattle.std.specs.List.Sorted.{IsPermutation}
use Rattle.event_adapter.specs.Source.{source_of}
use Rattle.event_adapter.specs.Inside.{ids, inside, least_room, strangers}
use Rattle.event_adapter.specs.Steps.{Dealt, Each}
use Rattle.event_adapter.proofs.dealing.deal.Given as goal

abbrev pub invariant-loop-j : goal.invariant-loop-j
invariant-loop-j g l = record {
  cap : l.taken.cap ≡ l.initial.taken.cap;
  rest : l.taken.ops ≡ drop l._j l.initial.taken.ops;
  out_cap : l.out.cap ≡ l.initial.out.cap;
  out : l.out.ops ≡ l.initial.out.ops ++ strangers l.initial.pairs.items (take l._j l.initial.taken.ops);
  out_room : length l.out.ops ≤ length l.initial.out.ops + l._j;
  each : Each (Dealt (take l._j l.initial.taken.ops)) l.initial.pairs.items l.pairs.items;
  ids : ids l.pairs.items ≡ ids l.initial.pairs.items;
  room : least_room l.initial.pairs.items ≤ least_room l.pairs.items + l._j;
  len : vec_len l.pairs ≡ vec_len l.initial.pairs;
  capacity : vec_capacity l.pairs ≡ vec_capacity l.initial.pairs;
  bag : IsPermutation (inside g.D.Driver l.initial.pairs.items l.initial.out.ops ++ map source_of (take l._j l.initial.taken.ops)) (inside g.D.Driver l.pairs.items l.out.ops);
}
