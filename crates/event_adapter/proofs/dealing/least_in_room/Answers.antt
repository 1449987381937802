use Rattle.std.proofs.Common.{◌≡◌, drop, arith}
use Rattle.std.proofs.lemmas.List.{at_drop_all}
use Rattle.event_adapter.specs.Inside.{least_room}
use Rattle.event_adapter.proofs.Loops.{least_within}
use Rattle.event_adapter.proofs.dealing.least_in_room.Goals as goal

pub loop-i-init : goal.loop-i-init
loop-i-init g c = record { least = let l = least_within c.args.pairs.now.items in omega (arith, l); within = omega arith }

pub returns : goal.returns
returns g c =
    let ps = c.args.pairs.now.items in
    let e : least_room (drop c.loop-i.i ps) ≡ 32 = at_drop_all least_room ps c.loop-i.i (omega (arith, c.loop-i-test.false, c.args.pairs.now.ok.0)) in
    omega (arith, e, c.loop-i.invariant.least, c.loop-i.invariant.within)
