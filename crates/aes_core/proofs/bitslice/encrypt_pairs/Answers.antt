use Rattle.std.proofs.Common.{arith, lit<}
use Rattle.aes_core.specs.Planes.{turned}
use Rattle.aes_core.proofs.Sliced.{begins, goes_on, ends, first_planes, later_planes, length-key_of, key_of}
use Rattle.aes_core.proofs.bitslice.encrypt_pairs.Goals as goal

pub rounds-init : goal.rounds-init
rounds-init c w long h =
    begins w c.args.pairs.now _ (c.first_key-state.ensures (key_of w 0) (length-key_of w 0 long (lit< tt)) (first_planes w c.args.keys.now _ h c.key_planes.ensures))

pub rounds-preserved : goal.rounds-preserved
rounds-preserved c w long h =
    let r = c.rounds.r in
    goes_on w c.args.pairs.now (turned c.rounds.state) _ r c.rounds.auto.r (c.rounds.invariant w long h)
    (c.round-state.ensures (key_of w r) (length-key_of w r long (omega arith)) (later_planes w c.args.keys.now _ r h c.rounds.auto.r (omega arith) c.key_planes-in-rounds.ensures))

pub returns : goal.returns
returns c w long h =
    let n = c.args.rounds in
    ends w c.args.pairs.now (turned c.rounds.state) _ c.rounds.r n (omega arith) (c.rounds.invariant w long h)
    (c.last_round.ensures (key_of w n) (length-key_of w n long (omega arith)) (later_planes w c.args.keys.now _ n h (omega arith) (omega arith) c.key_planes-2.ensures))
