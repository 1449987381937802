use Rattle.std.proofs.Common.{◌≡◌, ◌↔◌, length}
use Rattle.sym_session.proofs.compare.same.Given as goal

abbrev pub invariant-loop-x : goal.invariant-loop-x
invariant-loop-x l = record {
  as_long : length l.x-iterator.a.rest.now ≡ length l.x-iterator.b.rest.now;
  same_rest : (l.a ≡ l.b) ↔ (l.x-iterator.a.rest.now ≡ l.x-iterator.b.rest.now);
}
