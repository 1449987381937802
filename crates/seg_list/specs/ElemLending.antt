-- What a chain ends as, once a loan of an element is over.
use Rattle.std.specs.Prelude.{ℕ, slice_set}
use mathlib.Core.Path.{sym, ◌∙◌}
use lib.ListN.{length-set}
use base.Fml.{Fml}
use denote.RattleType.{RattleType}
use denote.Ref.{MutBor}
use denote.Follow.{follows}
use Rattle.seg_list.specs.declared.chain.Chain.{Chain}
use Rattle.seg_list.specs.contracts.chain.Chain.{the_row}

-- the same nodes with x as element i
abbrev pub with_elem : {X : Type 0} → Chain X → ℕ → X → Chain X
with_elem c i x = record {
  head = c.head;
  tail = c.tail;
  items = slice_set c.items i x;
  links = c.links;
  heap = c.heap;
  alike = c.alike ∙ sym (length-set c.items i x);
  chained = c.chained;
}

-- element i of c ends as the last value behind r
abbrev pub LendsElem : (R : RattleType) → MutBor (Chain R.Denot) → ℕ → MutBor R.Denot → Fml
LendsElem R c i r = follows (the_row R) R c.ghost_name r.ghost_name (with_elem c.now i)
