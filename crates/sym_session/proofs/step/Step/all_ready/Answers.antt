use Rattle.std.proofs.Common.{rules}
use Rattle.sym_session.specs.Xform.{transform_of}
use Rattle.sym_session.proofs.Alone.{each_alone}
use Rattle.sym_session.proofs.step.Step.all_ready.Goals as goal

pub ready-requires : goal.ready-requires
ready-requires c =
    let alone = each_alone transform_of c.args.xforms.now c.requires in
    search (rules, alone)
