use Rattle.std.proofs.Common.{◌++◌, arith, length-append}
use Rattle.aes_modes.proofs.XorLists.{both_parts}
use Rattle.aes_modes.proofs.xor.xor_four_pairs.Goals as goal

pub returns-clause-xored : goal.returns-clause-xored
returns-clause-xored c =
    both_parts 64 c.args.blocks.now (c.args.a ++ c.args.b) (c.args.c ++ c.args.d) c.split_at_mut-first.result.0.now c.split_at_mut-first.result.1.now _ _
    (omega (arith, c.fits-a.0, c.fits-b.0, length-append c.args.a c.args.b)) c.split_at_mut-first.ensures.front c.split_at_mut-first.ensures.back c.xor_two_pairs.ensures c.xor_two_pairs-2.ensures

pub returns-clause-long : goal.returns-clause-long
returns-clause-long c =
    omega (
      arith,
      c.fits-a.0,
      c.fits-b.0,
      c.fits-c.0,
      c.fits-d.0,
      length-append c.args.a c.args.b,
      length-append c.args.c c.args.d,
      length-append (c.args.a ++ c.args.b) (c.args.c ++ c.args.d),
    )
