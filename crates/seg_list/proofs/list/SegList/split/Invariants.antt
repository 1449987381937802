use Rattle.std.proofs.Common.{◌≡◌, ◌≤◌, ◌++◌, length}
use Rattle.seg_list.proofs.list.SegList.split.Given as goal

abbrev pub invariant-loop : goal.invariant-loop
invariant-loop l = (l.front ++ l.self ≡ l.fn.self) × (length l.front ≡ l.counter) × (l.count ≤ length l.fn.self) × (length l.fn.self ≤ 256)
