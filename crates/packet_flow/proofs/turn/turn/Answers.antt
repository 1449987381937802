use Rattle.dev_core.specs.Burst.{log_entry}
use Rattle.std.proofs.Common.{◌++◌, List, length, map, drop, ap, sym, subst, arith}
use Rattle.crypto_op.specs.declared.spec.Card.{Card}
use Rattle.crypto_op.specs.declared.op.Op.{Op}
use Rattle.crypto_op.specs.Burst.{Burst}
use Rattle.crypto_op.specs.Op.{Entry, entry_of}
use Rattle.packet_flow.specs.Slots.{StandFor}
use Rattle.packet_flow.specs.Turns.{with_offer}
use Rattle.packet_flow.proofs.Bags.{went_in, more_held, nothing_moved}
use Rattle.packet_flow.proofs.turn.turn.Goals as goal

pub drain-returned-requires-clause-few : goal.drain-returned-requires-clause-few
drain-returned-requires-clause-few g c =
    let more = more_held entry_of c.args.burst.now.ops (g.D.Driver.held c.args.dev.now) (g.D.Driver.held c.offer-accepted.new.dev) c.offer-accepted.result c.offer-accepted.ensures.held
    (omega (arith, c.offer-accepted.ensures.within)) in
    omega (arith, more, c.requires.few, c.offer-accepted.ensures.within)

pub drain-returned-requires-clause-stand : goal.drain-returned-requires-clause-stand
drain-returned-requires-clause-stand g c =
    let b = c.requires.stand in (
      b.0,
      map entry_of (drop c.offer-accepted.result c.args.burst.now.ops),
      went_in entry_of c.args.plan.now b.0 c.offer-accepted.result c.args.slots.now (g.D.Driver.held c.args.dev.now) (g.D.Driver.held c.offer-accepted.new.dev) c.args.burst.now.ops
          c.offer-accepted.ensures.held b.1,
    )

pub returns-clause-stand : goal.returns-clause-stand
returns-clause-stand g c ps b =
    let rest = ap (λ (x : Burst (Op Card)). map entry_of x.ops) c.offer-accepted.ensures.rest in
    subst (λ (l : List (Entry Card)). StandFor c.args.plan.now ps c.drain-returned.new.slots (g.D.Driver.held c.drain-returned.new.dev ++ l)) (sym rest)
    (c.drain-returned.ensures.stand ps (map entry_of (drop c.offer-accepted.result c.args.burst.now.ops))
    (went_in entry_of c.args.plan.now ps c.offer-accepted.result c.args.slots.now (g.D.Driver.held c.args.dev.now) (g.D.Driver.held c.offer-accepted.new.dev) c.args.burst.now.ops
    c.offer-accepted.ensures.held b))

pub returns-clause-count : goal.returns-clause-count
returns-clause-count g c =
    let more = more_held entry_of c.args.burst.now.ops (g.D.Driver.held c.args.dev.now) (g.D.Driver.held c.offer-accepted.new.dev) c.offer-accepted.result c.offer-accepted.ensures.held
    (omega (arith, c.offer-accepted.ensures.within)) in
    omega (arith, more, c.drain-returned.ensures.count)

pub returns-clause-cause : goal.returns-clause-cause
returns-clause-cause g c none some =
    let ops = c.args.burst.now.ops in
    let h = g.D.Driver.held c.args.dev.now in
    let h1 = g.D.Driver.held c.offer-accepted.new.dev in
    let n = c.offer-accepted.result in
    let more = more_held entry_of ops h h1 n c.offer-accepted.ensures.held (omega (arith, c.offer-accepted.ensures.within)) in
    nothing_moved (length ops) n c.drain-returned.result (length h) (length h1) (g.D.Driver.stalls c.args.dev.now) (g.D.Driver.stalls c.offer-accepted.new.dev) (g.D.Driver.stalls c.drain-returned.new.dev)
    none some more c.offer-accepted.ensures.stalls c.drain-returned.ensures.stalls (c.offer-accepted.ensures.cause c.requires.works) c.drain-returned.ensures.cause

pub returns-clause-calls : goal.returns-clause-calls
returns-clause-calls g c first past ran =
    c.drain-returned.ensures.calls first (with_offer (map log_entry c.args.burst.now.ops) c.offer-accepted.result past) (c.offer-accepted.ensures.calls first past ran)
