use Rattle.std.proofs.Common.{◌<◌, ◌+◌, ◌-◌, ◌/◌, length, arith}
use Rattle.packet_flow.specs.Laid.{slot_number}
use Rattle.packet_flow.proofs.Rising.{at_least, below}
use Rattle.packet_flow.proofs.Settling.{number_at}
use Rattle.packet_flow.proofs.slots.search_place.Goals as goal

pub loop-high-preserved-then-number : goal.loop-high-preserved-then-number
loop-high-preserved-then-number c =
    let ss = c.args.slots.now.items in
    let middle = c.loop-high.low + (c.loop-high.high - c.loop-high.low) / 2 in
    let inside : middle < length ss = omega (arith, c.loop-high.invariant.inside, c.loop-high-test.true) in
    let here = number_at ss middle c.index.result.now inside c.index.ensures in
    record {
      inside = c.loop-high.invariant.inside;
      between = λ i is.
          (at_least i middle c.args.number (slot_number c.index.result.now) _ c.requires.rising is here (omega (arith, c.if-number.true, c.number.ensures)), (c.loop-high.invariant.between i is).1);
    }

pub loop-high-preserved : goal.loop-high-preserved
loop-high-preserved c =
    let ss = c.args.slots.now.items in
    let middle = c.loop-high.low + (c.loop-high.high - c.loop-high.low) / 2 in
    let inside : middle < length ss = omega (arith, c.loop-high.invariant.inside, c.loop-high-test.true) in
    let here = number_at ss middle c.index.result.now inside c.index.ensures in
    record {
      inside = omega (arith, inside);
      between = λ i is.
          ((c.loop-high.invariant.between i is).0, below i middle c.args.number (slot_number c.index.result.now) _ c.requires.rising is here (omega (arith, c.if-number.false, c.number.ensures)));
    }
