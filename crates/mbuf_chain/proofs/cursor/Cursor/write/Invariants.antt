use Rattle.std.proofs.Common.{◌≡◌, ◌+◌, length, ◌-◌, ◌≤◌, take}
use Rattle.mbuf_chain.proofs.Walks.{Walked}
use Rattle.mbuf_chain.proofs.cursor.Cursor.write.Given as goal

abbrev pub invariant-loop-done : goal.invariant-loop-done
invariant-loop-done l = record {
  walked : Walked l.fn.self.chain l.fn.self.at (take l.done l.bytes) l.self.chain;
  at : l.self.at ≡ l.fn.self.at + l.done;
  within : l.done ≤ length l.bytes;
}

abbrev pub decreases-loop-done : goal.decreases-loop-done
decreases-loop-done l = length l.bytes - l.done
