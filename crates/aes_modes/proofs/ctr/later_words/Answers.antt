use Rattle.aes_modes.proofs.Counters.{later}
use Rattle.aes_modes.proofs.ctr.later_words.Goals as goal

pub returns : goal.returns
returns c t small e room = later t c.args.i c.args.words small e room
