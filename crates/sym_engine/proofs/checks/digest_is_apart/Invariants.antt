use Rattle.std.proofs.Common.{◌≡◌, ℕ, List, map, take, true}
use Rattle.std.specs.List.{list_all}
use Rattle.crypto_model.specs.Process.{digest_apart}
use Rattle.sym_session.specs.Plain.{plain}
use Rattle.sym_engine.specs.Working.{input_for}
use Rattle.sym_engine.proofs.checks.digest_is_apart.Given as goal

abbrev pub invariant-loop-step : goal.invariant-loop-step
invariant-loop-step l = (p : List ℕ) → list_all (digest_apart (input_for l.fn.spec p) l.fn.at l.fn.n) (map plain (take l.step-index l.fn.steps)) ≡ true
