use Rattle.std.proofs.Common.{◌≡◌, ◌+◌, ◌-◌, length, take, drop, arith, append_assoc, sym}
use Rattle.std.proofs.lemmas.List.{drop-drop}
use Rattle.crypto_model.proofs.slow.put.Goals as goal

pub returns : goal.returns
returns c =
    let e : c.args.at + length c.args.bytes.now - c.args.at ≡ length c.args.bytes.now = omega arith in
    rw (e, c.copy_from_slice.ensures.after, drop-drop) (sym (append_assoc (take c.args.at c.args.list.now) c.args.bytes.now (drop (c.args.at + length c.args.bytes.now) c.args.list.now)))
