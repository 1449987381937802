use Rattle.std.proofs.Common.{arith}
use Rattle.std.proofs.lemmas.Simd.{put_chunk_whole}
use Rattle.aes_modes.proofs.lanes.write_two.Goals as goal

pub returns : goal.returns
returns c =
    let parts = c.split_at_mut-first in
    rw (put_chunk_whole parts.result.0.now c.args.a (omega (arith, c.fits-a.0, parts.ensures.front_len)), put_chunk_whole parts.result.1.now c.args.b (omega (arith, c.fits-b.0, c.requires, parts.ensures.back_len)))
