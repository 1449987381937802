use Rattle.std.proofs.Common.{◌∙◌, sym, arith}
use Rattle.capture_io.proofs.Generating.{part_read}
use Rattle.capture_io.proofs.generator.GeneratorSource.read.Goals as goal

pub returns-clause-taken : goal.returns-clause-taken
returns-clause-taken c told =
    let s = c.make_ready.new.self in
    sym c.make_ready.ensures.same ∙ part_read s.at s.end c.min-n.result s.ready c.copy_from_slice.new.self _ _ s.read (omega (arith, s.fits)) (omega (arith, c.min-n.ensures)) c.copy_from_slice.ensures.after
