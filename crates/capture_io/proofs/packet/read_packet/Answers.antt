use Rattle.std.proofs.Common.{ap, ◌∙◌}
use Rattle.mbuf_chain.specs.Chain.{shape_of}
use Rattle.capture_io.proofs.Segments.{filled-length}
use Rattle.capture_io.proofs.packet.read_packet.Goals as goal

pub returns-in-Ok-clause-length : goal.returns-in-Ok-clause-length
returns-in-Ok-clause-length g c = filled-length c.from_segs.result c.args.len (ap shape_of c.from_segs.ensures ∙ c.in-Ok.ensures.shape)
