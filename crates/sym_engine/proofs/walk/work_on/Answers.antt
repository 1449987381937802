use Rattle.sym_engine.proofs.walk.work_on.Goals as goal

pub returns : goal.returns
returns g c = λ key iv aad h. c.work_on.ensures (key, iv, aad) h
