use Rattle.std.proofs.Common.{◌≡◌, ℕ, ◌+◌, List, [], map, drop, refl, sym, ap, subst, ◌∙◌, arith}
use Rattle.std.specs.Prelude.{Some, None}
use Rattle.mbuf_chain.specs.Chain.{packet_of}
use Rattle.crypto_model.specs.Process.{transform_fits, worked}
use Rattle.crypto_op.specs.Op.{with_chain}
use Rattle.crypto_op.specs.declared.op.Op.{Op}
use Rattle.crypto_op.specs.declared.spec.OpSpec.{OpSpec}
use Rattle.sym_session.specs.Plain.{plain}
use Rattle.sym_engine.specs.Working.{input_for, work_of, ready}
use Rattle.sym_engine.proofs.EachItem.{one_of_all}
use Rattle.sym_engine.proofs.Written.{written_none, written_twice}
use Rattle.sym_engine.proofs.Ordered.{all_none, step_on, only_first, made_ready}
use Rattle.sym_engine.proofs.processing.all_work.Goals as goal

pub loop-step-init : goal.loop-step-init
loop-step-init g c = record { works = λ p. refl; kept = refl; written = written_none c.args.op.now.chain; untouched = λ e. refl }

pub step_work-requires : goal.step_work-requires
step_work-requires g c =
    let op = c.args.op.now in
    let packet = packet_of op.chain in
    let all = map plain c.args.steps.now in
    let step = c.step-item.result in
    let now = packet_of c.loop-step.op.chain in
    let spec : c.loop-step.op.spec ≡ op.spec = ap (λ (o : Op g.row.C.Denot). o.spec) c.loop-step.invariant.kept in
    subst (λ (s : OpSpec). ready (input_for s now) (plain step)) (sym spec)
    (made_ready op.spec packet now all (plain step) c.loop-step.invariant.written.1
    (one_of_all (transform_fits (input_for op.spec packet) all) plain c.args.steps.now c.loop-step.step-index step c.loop-step-test.true c.step-item.is c.requires.fit))

pub returns-then-not-step_work : goal.returns-then-not-step_work
returns-then-not-step_work g c =
    let op = c.args.op.now in
    let i = c.loop-step.invariant in
    let step = c.step-item.result in
    let w = work_of c.loop-step.op.chain c.loop-step.digest in
    let spec : c.loop-step.op.spec ≡ op.spec = ap (λ (o : Op g.row.C.Denot). o.spec) i.kept in
    let does = c.if-not-step_work.ensures in
    let works : (p : List ℕ) → worked (plain step) (input_for op.spec p) w ≡ None = λ p. ap (λ (s : OpSpec). worked (plain step) (input_for s p) w) (sym spec) ∙ does.works p in
    let first = only_first c.args.steps.now c.loop-step.step-index step (input_for op.spec []) w c.requires.first c.loop-step-test.true c.step-item.is (works []) in
    let same = does.unless refl ∙ i.untouched first in
    record {
      works = λ p. i.works p
          ∙ step_on c.args.steps.now c.loop-step.step-index step (input_for op.spec p) w None c.loop-step-test.true c.step-item.is (works p)
          ∙ all_none (map plain (drop (c.loop-step.step-index + 1) c.args.steps.now)) (input_for op.spec p);
      kept = does.kept ∙ ap (λ (o : Op g.row.C.Denot). with_chain o c.step_work.new.op.chain) i.kept;
      written = written_twice op.chain c.loop-step.op.chain c.step_work.new.op.chain i.written does.written;
      unless = λ e. same;
    }

pub loop-step-preserved : goal.loop-step-preserved
loop-step-preserved g c =
    let op = c.args.op.now in
    let i = c.loop-step.invariant in
    let step = c.step-item.result in
    let w = work_of c.loop-step.op.chain c.loop-step.digest in
    let after = work_of c.step_work.new.op.chain c.step_work.new.digest in
    let spec : c.loop-step.op.spec ≡ op.spec = ap (λ (o : Op g.row.C.Denot). o.spec) i.kept in
    let does = c.if-not-step_work.ensures in
    record {
      works = λ p. i.works p
          ∙ step_on c.args.steps.now c.loop-step.step-index step (input_for op.spec p) w (Some after) c.loop-step-test.true c.step-item.is
          (ap (λ (s : OpSpec). worked (plain step) (input_for s p) w) (sym spec) ∙ does.works p);
      kept = does.kept ∙ ap (λ (o : Op g.row.C.Denot). with_chain o c.step_work.new.op.chain) i.kept;
      written = written_twice op.chain c.loop-step.op.chain c.step_work.new.op.chain i.written does.written;
      untouched = λ e. absurd (omega (arith, e));
    }
