use Rattle.std.proofs.Common.{◌≡◌, ◌↔◌, map, length}
use Rattle.sym_session.specs.Plain.{plain}
use Rattle.sym_session.proofs.compare.are_same_steps.Given as goal

abbrev pub invariant-loop-x : goal.invariant-loop-x
invariant-loop-x l = record {
  as_long : length l.x-iterator.a.rest.now ≡ length l.x-iterator.b.rest.now;
  same_rest : (map plain l.a ≡ map plain l.b) ↔ (map plain l.x-iterator.a.rest.now ≡ map plain l.x-iterator.b.rest.now);
}
