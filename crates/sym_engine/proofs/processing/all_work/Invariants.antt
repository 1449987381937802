use Rattle.std.proofs.Common.{◌≡◌, ℕ, List, map, drop}
use Rattle.std.specs.Prelude.{Some}
use Rattle.crypto_model.specs.Process.{all_worked}
use Rattle.crypto_op.specs.Op.{with_chain}
use Rattle.sym_session.specs.Plain.{plain}
use Rattle.sym_engine.specs.Working.{input_for, work_of, IsWritten}
use Rattle.sym_engine.proofs.processing.all_work.Given as goal

abbrev pub invariant-loop-step : goal.invariant-loop-step
invariant-loop-step g l = record {
  works : (p : List ℕ) → all_worked (map plain l.fn.steps) (input_for l.fn.op.spec p) (Some (work_of l.fn.op.chain l.fn.digest))
      ≡ all_worked (map plain (drop l.step-index l.fn.steps)) (input_for l.fn.op.spec p) (Some (work_of l.op.chain l.digest));
  kept : l.op ≡ with_chain l.fn.op l.op.chain;
  written : IsWritten l.fn.op.chain l.op.chain;
  untouched : l.step-index ≡ 0 → l.op.chain ≡ l.fn.op.chain;
}
