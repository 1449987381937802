use Rattle.std.proofs.Common.{◌≡◌, ◌-◌, ◌%◌, length}
use Rattle.aes_modes.proofs.Pieces.{IsFedUpto}
use Rattle.aes_modes.proofs.ctr.Ctr.feed_sixteens.Given as goal

abbrev pub invariant-loop-at : goal.invariant-loop-at
invariant-loop-at l = (l.at % 256 ≡ 0) × IsFedUpto l.fn.self l.self l.fn.piece l.piece l.at

abbrev pub decreases-loop-at : goal.decreases-loop-at
decreases-loop-at l = length l.initial.piece - l.at
