use Rattle.sym_engine.proofs.mode.CbcDecMode.feed.Goals as goal

pub returns : goal.returns
returns c = λ key iv aad text h. c.blocks-2.ensures key iv text h
