use Rattle.std.proofs.Common.{[]}
use Rattle.sym_engine.proofs.work.verify_range.Goals as goal

pub returns : goal.returns
returns c = λ key iv aad h.
    let fed = c.feed_range.ensures (key, iv, aad) [] h in (c.verify.ensures.which key iv aad _ fed, c.verify.ensures.opened key iv aad _ fed)
