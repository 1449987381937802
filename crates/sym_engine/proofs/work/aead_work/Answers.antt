use Rattle.std.proofs.Common.{sym, ◌∙◌}
use Rattle.sym_engine.proofs.work.aead_work.Goals as goal

pub returns-in-Encrypt-clause-works : goal.returns-in-Encrypt-clause-works
returns-in-Encrypt-clause-works g c = λ p. rw (sym c.dir.ensures ∙ c.in-Encrypt.is) (c.seal.ensures.works p)

pub returns-in-Decrypt-clause-works : goal.returns-in-Decrypt-clause-works
returns-in-Decrypt-clause-works g c = λ p. rw (sym c.dir.ensures ∙ c.in-Decrypt.is) (c.open.ensures.works p)
