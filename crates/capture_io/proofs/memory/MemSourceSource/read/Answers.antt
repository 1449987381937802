use Rattle.std.proofs.Common.{arith}
use Rattle.capture_io.proofs.Parts.{source_taken}
use Rattle.capture_io.proofs.memory.MemSourceSource.read.Goals as goal

pub returns-clause-taken : goal.returns-clause-taken
returns-clause-taken c told = let same = c.deref-2.ensures.value in source_taken c.args.self.now.at c.min-n.result _ c.args.self.now.bytes.items c.copy_from_slice.new.self _ (omega arith) (omega (arith, same, c.deref-2.ensures.len)) (rw same at c.copy_from_slice.ensures.after)
