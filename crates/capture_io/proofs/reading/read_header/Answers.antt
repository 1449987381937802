use Rattle.std.proofs.Common.{◌≡◌, length, arith, ◌∙◌, ap, sym}
use Rattle.capture_io.specs.Capture.{with_rest}
use Rattle.capture_io.proofs.Framing.{filled, header_whole}
use Rattle.capture_io.proofs.reading.read_header.Goals as goal

pub returns-in-Ok-clause-found : goal.returns-in-Ok-clause-found
returns-in-Ok-clause-found g c told =
    let len : length c.fill.new.buf ≡ 24 = omega arith in
    let n : c.in_ok-n.n ≡ 24 = omega (arith, c.in_ok-n.ensures.within) in
    header_whole c.fill.new.buf _ _ len (filled c.in_ok-n.n 24 c.fill.new.buf _ _ n len (c.in_ok-n.ensures.taken told)) ∙ ap (with_rest (g.S.Source.left c.fill.new.src)) (sym c.in-Ok.ensures.value)

pub returns-in-Err-clause-stop : goal.returns-in-Err-clause-stop
returns-in-Err-clause-stop g c told =
    let len : length c.fill.new.buf ≡ 24 = omega arith in
    let n : c.in_ok-n.n ≡ 24 = omega (arith, c.in_ok-n.ensures.within) in
    header_whole c.fill.new.buf _ _ len (filled c.in_ok-n.n 24 c.fill.new.buf _ _ n len (c.in_ok-n.ensures.taken told)) ∙ ap (with_rest (g.S.Source.left c.fill.new.src)) (sym c.in-Err.ensures.value)
