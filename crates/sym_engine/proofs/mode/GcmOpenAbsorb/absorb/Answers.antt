use Rattle.sym_engine.proofs.mode.GcmOpenAbsorb.absorb.Goals as goal

pub returns : goal.returns
returns c = λ begun text h. c.absorb.ensures begun.0 begun.1 begun.2 text h
