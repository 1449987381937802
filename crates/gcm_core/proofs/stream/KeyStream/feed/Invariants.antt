use Rattle.std.proofs.Common.{◌-◌, length}
use Rattle.gcm_core.proofs.FedPieces.{IsFedUpto}
use Rattle.gcm_core.proofs.stream.KeyStream.feed.Given as goal

abbrev pub invariant-loop-at : goal.invariant-loop-at
invariant-loop-at l = IsFedUpto l.fn.self l.self l.fn.piece l.piece l.at

abbrev pub decreases-loop-at : goal.decreases-loop-at
decreases-loop-at l = length l.initial.piece - l.at
