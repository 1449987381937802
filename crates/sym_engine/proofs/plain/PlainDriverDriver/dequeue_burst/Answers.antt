use Rattle.std.proofs.Common.{map}
use Rattle.std.proofs.lemmas.List.{map-append, take-append-drop}
use Rattle.std.proofs.lemmas.List.Sorted.{IsPermutation-refl}
use Rattle.crypto_op.specs.Op.{entry_of}
use Rattle.sym_engine.proofs.plain.PlainDriverDriver.dequeue_burst.Goals as goal

pub returns-clause-in_order : goal.returns-clause-in_order
returns-clause-in_order g c _ =
    let q = c.args.self.now.queue.items in
    rw (c.give_out.ensures.entries, c.give_out.ensures.rest, ← map-append, take-append-drop)

pub returns-clause-held : goal.returns-clause-held
returns-clause-held g c =
    let q = c.args.self.now.queue.items in
    rw (c.give_out.ensures.entries, c.give_out.ensures.rest, ← map-append, take-append-drop) (IsPermutation-refl (map entry_of q))
