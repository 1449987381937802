use Rattle.std.proofs.Common.{◌≡◌, length, map, take}
use Rattle.capcrypt.proofs.top.operations_of.Given as goal

abbrev pub invariant-loop-i : goal.invariant-loop-i
invariant-loop-i g l = record {
  done : take l.i l.operations ≡ map (λ d. (g.D.Driver.stats d).enqueued) (take l.i l.devs);
  count : length l.operations ≡ 8;
}
