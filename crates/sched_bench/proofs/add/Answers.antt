use Rattle.std.proofs.Common.{◌∷◌, []}
use Rattle.std.proofs.lemmas.List.Elements.{All-append, All-cons, All-nil}
use Rattle.crypto_op.specs.Op.{IsFresh}
use Rattle.sched_bench.proofs.add.Goals as goal

pub returns-then-room-ne0 : goal.returns-then-room-ne0
returns-then-room-ne0 c = rw c.push.ensures (All-append IsFresh c.args.burst.now.ops (c.args.op ∷ []) c.requires.burst (All-cons IsFresh c.args.op [] c.requires.op (All-nil IsFresh)))
