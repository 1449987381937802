use Rattle.crypto_op.specs.declared.spec.Card.{Card}
use Rattle.crypto_op.specs.declared.op.Op.{Op}
use Rattle.crypto_op.specs.Burst.{Burst}
use Rattle.dev_core.specs.Burst.{log_entry}
use Rattle.std.proofs.Common.{Err, [], map, length, refl, ap, ◌∙◌, arith}
use Rattle.dev_core.specs.declared.stats.Stats.{Stats}
use Rattle.packet_flow.specs.declared.flow.FlowEnd.TheVariants as flow_end
use Rattle.packet_flow.specs.Passage.{before, outside}
use Rattle.packet_flow.proofs.Ends.{ends_early}
use Rattle.packet_flow.proofs.Turning.{counted_few, ends_unbegun, enqueued_few, fewer_left, new_underway, stalled_on}
use Rattle.packet_flow.proofs.flow.transfer.Goals as goal

pub returns-in_default-clause-ends : goal.returns-in_default-clause-ends
returns-in_default-clause-ends g c = (
  [],
  refl,
  ends_unbegun c.args.plan.now (before c.args.header.now.big (g.S.Source.left c.args.src.now) (g.K.Sink.written c.args.out.now) (g.D.Driver.log c.args.dev.now) c.args.sizes.burst)
      g.S.Source.tells g.K.Sink.tells
      (outside (g.S.Source.left c.args.src.now) (g.K.Sink.written c.args.out.now) (g.D.Driver.held c.args.dev.now) (g.D.Driver.stats c.args.dev.now) (g.D.Driver.log c.args.dev.now) [])
      c.new-in_default.result refl (record { enqueued_is = omega (arith, ap (λ (s : Stats). s.enqueued) c.requires.stats); log_is = c.requires.log }) refl c.new-in_default.ensures,
)

pub loop-moved-init : goal.loop-moved-init
loop-moved-init g c = record {
  underway = (
    [],
    record { drained = tt; rest = ap (λ (x : Burst (Op Card)). map log_entry x.ops) c.in-Ok.ensures.burst },
    refl,
    new_underway c.args.plan.now _ g.S.Source.tells g.K.Sink.tells c.args.sizes.burst c.in-Ok.passage _ c.requires.burst.0 refl refl c.in-Ok.ensures
        (record { enqueued_is = omega (arith, ap (λ (s : Stats). s.enqueued) c.requires.stats); log_is = c.requires.log }) refl refl c.requires.idle,
  );
  sessions = refl;
  follows = g.met.D.Driver.follows_itself _;
  later = omega arith;
  stalls = omega arith;
  patience = omega arith;
  read_later = omega arith;
  write_later = omega arith;
  write_steady = λ steady. refl;
}

pub step-requires-clause-sessions : goal.step-requires-clause-sessions
step-requires-clause-sessions g c = c.loop-moved.invariant.sessions ∙ c.requires.sessions

pub step-requires-clause-works : goal.step-requires-clause-works
step-requires-clause-works g c = c.requires.works c.loop-moved.dev c.loop-moved.invariant.follows

pub step-requires-clause-underway : goal.step-requires-clause-underway
step-requires-clause-underway g c = let u = c.loop-moved.invariant.underway in (_, u.0, refl, u.1, u.3)

pub returns-in-Err-clause-ends : goal.returns-in-Err-clause-ends
returns-in-Err-clause-ends g c =
    let u = c.loop-moved.invariant.underway in
    c.in-Err.ensures.ends (before c.args.header.now.big (g.S.Source.left c.args.src.now) (g.K.Sink.written c.args.out.now) (g.D.Driver.log c.args.dev.now) c.args.sizes.burst)
    u.0 c.args.dev.now refl u.1 u.2 u.3

pub returns-in-Err-clause-stalls : goal.returns-in-Err-clause-stalls
returns-in-Err-clause-stalls g c = omega (arith, c.loop-moved.invariant.later, c.step.ensures.stalls)

pub returns-in-Err-clause-sessions : goal.returns-in-Err-clause-sessions
returns-in-Err-clause-sessions g c = c.step.ensures.sessions ∙ c.loop-moved.invariant.sessions

pub returns-in-Err-clause-follows : goal.returns-in-Err-clause-follows
returns-in-Err-clause-follows g c = g.met.D.Driver.follows_on _ _ _ c.loop-moved.invariant.follows c.step.ensures.follows

pub returns-in-Err-clause-read_later : goal.returns-in-Err-clause-read_later
returns-in-Err-clause-read_later g c = omega (arith, c.loop-moved.invariant.read_later, c.step.ensures.read_later)

pub returns-in-Err-clause-read_cause : goal.returns-in-Err-clause-read_cause
returns-in-Err-clause-read_cause g c is = omega (arith, c.loop-moved.invariant.read_later, c.in-Err.ensures.read_cause (ap Err is))

pub returns-in-Err-clause-write_later : goal.returns-in-Err-clause-write_later
returns-in-Err-clause-write_later g c = omega (arith, c.loop-moved.invariant.write_later, c.step.ensures.write_later)

pub returns-in-Err-clause-write_cause : goal.returns-in-Err-clause-write_cause
returns-in-Err-clause-write_cause g c is = omega (arith, c.loop-moved.invariant.write_later, c.in-Err.ensures.write_cause (ap Err is))

pub returns-in-Err-clause-write_steady : goal.returns-in-Err-clause-write_steady
returns-in-Err-clause-write_steady g c steady other = c.in-Err.ensures.write_steady steady (λ is. other cc) ∙ c.loop-moved.invariant.write_steady steady

pub overflow_add-stalled : goal.overflow_add-stalled
overflow_add-stalled g c =
    let few = enqueued_few c.args.plan.now _ g.S.Source.tells g.K.Sink.tells c.loop-moved.passage _ c.loop-moved.invariant.underway.3 in
    omega (arith, few, c.loop-moved.invariant.patience, counted_few c.in-Ok-step.moved c.from-stalled.result c.from-stalled.ensures)

pub overflow_add-stats : goal.overflow_add-stats
overflow_add-stats g c =
    let few = enqueued_few c.args.plan.now _ g.S.Source.tells g.K.Sink.tells c.step.new.passage _ (c.in-Ok-step.ensures.underway _ c.loop-moved.invariant.underway.0 c.args.dev.now refl c.loop-moved.invariant.underway.1 c.loop-moved.invariant.underway.2 c.loop-moved.invariant.underway.3).3 in
    omega (arith, few, ap (λ (s : Stats). s.enqueued) c.stats.ensures)

pub overflow_mul-stats : goal.overflow_mul-stats
overflow_mul-stats g c =
    let few = enqueued_few c.args.plan.now _ g.S.Source.tells g.K.Sink.tells c.step.new.passage _ (c.in-Ok-step.ensures.underway _ c.loop-moved.invariant.underway.0 c.args.dev.now refl c.loop-moved.invariant.underway.1 c.loop-moved.invariant.underway.2 c.loop-moved.invariant.underway.3).3 in
    omega (arith, few, ap (λ (s : Stats). s.enqueued) c.stats.ensures)

pub returns-then-stalled-stats-clause-ends : goal.returns-then-stalled-stats-clause-ends
returns-then-stalled-stats-clause-ends g c =
    let b = before c.args.header.now.big (g.S.Source.left c.args.src.now) (g.K.Sink.written c.args.out.now) (g.D.Driver.log c.args.dev.now) c.args.sizes.burst in
    let u = c.loop-moved.invariant.underway in
    let now = c.in-Ok-step.ensures.underway b u.0 c.args.dev.now refl u.1 u.2 u.3 in (
      now.0,
      now.2,
      ends_early c.args.plan.now b g.S.Source.tells g.K.Sink.tells c.step.new.passage
          (outside (g.S.Source.left c.step.new.src) (g.K.Sink.written c.step.new.out) (g.D.Driver.held c.step.new.dev) (g.D.Driver.stats c.step.new.dev) (g.D.Driver.log c.step.new.dev) now.0)
          flow_end.Stalled c.step.new.passage.counts (λ w. w) (λ is. cc) now.3 refl,
    )

pub returns-then-stalled-stats-clause-stalled : goal.returns-then-stalled-stats-clause-stalled
returns-then-stalled-stats-clause-stalled g c is =
    omega (
      arith,
      c.if-stalled-stats.true,
      ap (λ (s : Stats). s.enqueued) c.stats.ensures,
      stalled_on (g.D.Driver.stalls c.args.dev.now) (g.D.Driver.stalls c.loop-moved.dev) (g.D.Driver.stalls c.step.new.dev) c.loop-moved.stalled c.in-Ok-step.moved c.from-stalled.result c.from-stalled.ensures
          c.loop-moved.invariant.stalls c.step.ensures.stalls c.in-Ok-step.ensures.cause,
    )

pub returns-then-stalled-stats-clause-stalls : goal.returns-then-stalled-stats-clause-stalls
returns-then-stalled-stats-clause-stalls g c = omega (arith, c.loop-moved.invariant.later, c.step.ensures.stalls)

pub returns-then-stalled-stats-clause-sessions : goal.returns-then-stalled-stats-clause-sessions
returns-then-stalled-stats-clause-sessions g c = c.step.ensures.sessions ∙ c.loop-moved.invariant.sessions

pub returns-then-stalled-stats-clause-follows : goal.returns-then-stalled-stats-clause-follows
returns-then-stalled-stats-clause-follows g c = g.met.D.Driver.follows_on _ _ _ c.loop-moved.invariant.follows c.step.ensures.follows

pub returns-then-stalled-stats-clause-read_later : goal.returns-then-stalled-stats-clause-read_later
returns-then-stalled-stats-clause-read_later g c = omega (arith, c.loop-moved.invariant.read_later, c.step.ensures.read_later)

pub returns-then-stalled-stats-clause-write_later : goal.returns-then-stalled-stats-clause-write_later
returns-then-stalled-stats-clause-write_later g c = omega (arith, c.loop-moved.invariant.write_later, c.step.ensures.write_later)

pub returns-then-stalled-stats-clause-write_steady : goal.returns-then-stalled-stats-clause-write_steady
returns-then-stalled-stats-clause-write_steady g c steady other = c.step.ensures.write_steady steady (λ is. cc) ∙ c.loop-moved.invariant.write_steady steady

pub loop-moved-smaller : goal.loop-moved-smaller
loop-moved-smaller g c =
    let few = enqueued_few c.args.plan.now _ g.S.Source.tells g.K.Sink.tells c.loop-moved.passage _ c.loop-moved.invariant.underway.3 in
    let few' = enqueued_few c.args.plan.now _ g.S.Source.tells g.K.Sink.tells c.step.new.passage _ (c.in-Ok-step.ensures.underway _ c.loop-moved.invariant.underway.0 c.args.dev.now refl c.loop-moved.invariant.underway.1 c.loop-moved.invariant.underway.2 c.loop-moved.invariant.underway.3).3 in
    fewer_left (length (g.D.Driver.held c.loop-moved.dev)) (length (g.D.Driver.held c.step.new.dev)) (g.D.Driver.stats c.loop-moved.dev).enqueued (g.D.Driver.stats c.step.new.dev).enqueued
    c.loop-moved.stalled c.in-Ok-step.moved c.from-stalled.result c.from-stalled.ensures few few' c.in-Ok-step.ensures.moved
    (omega (arith, c.if-stalled-stats.false, ap (λ (s : Stats). s.enqueued) c.stats.ensures))

pub loop-moved-preserved : goal.loop-moved-preserved
loop-moved-preserved g c =
    let inv = c.loop-moved.invariant in
    record {
      underway = c.in-Ok-step.ensures.underway _ inv.underway.0 c.args.dev.now refl inv.underway.1 inv.underway.2 inv.underway.3;
      sessions = c.step.ensures.sessions ∙ inv.sessions;
      follows = g.met.D.Driver.follows_on _ _ _ inv.follows c.step.ensures.follows;
      later = omega (arith, inv.later, c.step.ensures.stalls);
      stalls = stalled_on (g.D.Driver.stalls c.args.dev.now) (g.D.Driver.stalls c.loop-moved.dev) (g.D.Driver.stalls c.step.new.dev) c.loop-moved.stalled c.in-Ok-step.moved c.from-stalled.result
          c.from-stalled.ensures inv.stalls c.step.ensures.stalls c.in-Ok-step.ensures.cause;
      patience = omega (arith, c.if-stalled-stats.false, ap (λ (s : Stats). s.enqueued) c.stats.ensures);
      read_later = omega (arith, inv.read_later, c.step.ensures.read_later);
      write_later = omega (arith, inv.write_later, c.step.ensures.write_later);
      write_steady = λ steady. c.step.ensures.write_steady steady (λ is. cc) ∙ inv.write_steady steady;
    }
