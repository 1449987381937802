use Rattle.std.proofs.Common.{◌≡◌, ◌+◌, length}
use Rattle.seg_list.proofs.list.SegList.drop.Given as goal

abbrev pub invariant-loop : goal.invariant-loop
invariant-loop l = length l.chain.items + l.counter ≡ l.len
