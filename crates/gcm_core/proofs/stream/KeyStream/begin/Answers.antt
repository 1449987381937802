use Rattle.std.proofs.Common.{refl, arith, []}
use Rattle.gcm_core.proofs.stream.KeyStream.begin.Goals as goal

pub returns-clause-stream : goal.returns-clause-stream
returns-clause-stream c = record {
  gone = [];
  before = 0;
  here = [];
  same_key = refl;
  same_iv = refl;
  long = c.iv_block.ensures.long;
  bytes = c.iv_block.ensures.bytes;
  parts = refl;
  whole = refl;
  room = omega arith;
  fed = rw c.iv_block.ensures.block at c.new.ensures;
}
