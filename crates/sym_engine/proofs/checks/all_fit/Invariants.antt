use Rattle.std.proofs.Common.{◌≡◌, ℕ, List, map, length, take, true}
use Rattle.std.specs.List.{list_all}
use Rattle.crypto_model.specs.Process.{transform_fits}
use Rattle.sym_session.specs.Plain.{plain}
use Rattle.sym_engine.specs.Working.{input_for}
use Rattle.sym_engine.proofs.checks.all_fit.Given as goal

abbrev pub invariant-loop-step : goal.invariant-loop-step
invariant-loop-step l = (p : List ℕ) → l.fn.all ≡ length p → list_all (transform_fits (input_for l.fn.spec p) (map plain l.fn.steps)) (map plain (take l.step-index l.fn.steps)) ≡ true
