use Rattle.std.proofs.Common.{◌≡◌, ◌-◌, ◌%◌, length, take, drop}
use Rattle.aes_modes.specs.Chaining.{Chains}
use Rattle.aes_modes.proofs.cbc.CbcEnc.blocks.Given as goal

abbrev pub invariant-loop-at : goal.invariant-loop-at
invariant-loop-at l = record {
  whole : l.at % 16 ≡ 0;
  rest : drop l.at l.piece ≡ drop l.at l.fn.piece;
  chains : Chains l.fn.self l.self (take l.at l.fn.piece) (take l.at l.piece);
}

abbrev pub decreases-loop-at : goal.decreases-loop-at
decreases-loop-at l = length l.initial.piece - l.at
