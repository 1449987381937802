use Rattle.std.proofs.Common.{◌≡◌, map, take}
use Rattle.sym_session.specs.Xform.{transform_of}
use Rattle.sym_session.specs.Plain.{plain}
use Rattle.sym_session.proofs.step.Step.all_ready.Given as goal

abbrev pub invariant-loop-xform : goal.invariant-loop-xform
invariant-loop-xform l = map plain l.steps.items ≡ map transform_of (take l.xform-index l.xforms)
