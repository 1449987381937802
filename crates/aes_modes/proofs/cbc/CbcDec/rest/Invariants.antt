use Rattle.std.proofs.Common.{◌≡◌, ◌-◌, ◌%◌, length, take, drop}
use Rattle.aes_modes.specs.Chaining.{Unchains}
use Rattle.aes_modes.proofs.cbc.CbcDec.rest.Given as goal

abbrev pub invariant-loop-at : goal.invariant-loop-at
invariant-loop-at l = record {
  whole : l.at % 16 ≡ 0;
  rest : drop l.at l.piece ≡ drop l.at l.fn.piece;
  unchains : Unchains l.fn.self l.self (take l.at l.fn.piece) (take l.at l.piece);
}

abbrev pub decreases-loop-at : goal.decreases-loop-at
decreases-loop-at l = length l.initial.piece - l.at
