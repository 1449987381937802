use Rattle.std.proofs.Common.{arith}
use Rattle.capcrypt.proofs.Dealt.{most_eight}
use Rattle.capcrypt.proofs.deal.launch_ready.Goals as goal

pub set_up_each-requires-clause-most : goal.set_up_each-requires-clause-most
set_up_each-requires-clause-most g c = omega (arith, c.requires.legal.schedulable.most, most_eight c.args.text.now.mode)
