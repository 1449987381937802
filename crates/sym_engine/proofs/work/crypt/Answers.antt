use Rattle.std.proofs.Common.{[]}
use Rattle.sym_engine.proofs.work.crypt.Goals as goal

pub returns-in-AesCtr : goal.returns-in-AesCtr
returns-in-AesCtr c = rw c.in-AesCtr.is (rw c.deref.ensures at (c.work_on.ensures c.deref.result.now c.args.iv [] c.new.ensures).1)

pub returns-in-Decrypt : goal.returns-in-Decrypt
returns-in-Decrypt c =
    rw (c.in-AesCbc.is, c.in-Decrypt.is) (rw c.deref-in-Decrypt.ensures at (c.work_on-in-Decrypt.ensures c.deref-in-Decrypt.result.now c.args.iv [] c.new-in-Decrypt.ensures).1)
