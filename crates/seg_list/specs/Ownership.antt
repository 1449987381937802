-- What the nodes of a chain own.
use Rattle.std.specs.Prelude.{List, [], ◌∷◌}
use mir.Syntax.{Ty}
use base.Fml.{Lft, Fml, ftrue, fsep}
use denote.Sharing.{nothing, beside}
use denote.Struct.Lending.{lent_at}
use denote.RattleType.{RattleType}
use denote.RawPtr.{Ptr}
use Rattle.std.specs.contracts.impls.GlobalAllocator.TheImpl.{ghosts}
use Rattle.std.specs.contracts.alloc.Global as heap
use Rattle.std_alloc.specs.Box.Ownership.{box_owns}
use Rattle.seg_list.specs.contracts.node.Node as Block
use Rattle.seg_list.specs.Links.{Link}

-- the right to free a block of the heap
abbrev pub heap_token : heap.the_row.Denot → Ty → Ptr → Fml
heap_token = ghosts.dealloc_token

module _ (R : RattleType) where
  -- a node: its box, whose `next` and element these are, and which may be freed
  abbrev pub node_owns : (Ty → Ptr → Fml) → Link → R.Denot → Fml
  node_owns frees l x = box_owns frees (Block.the_row R) l.0 (record { next = l.1; elem = x })

  abbrev pub chain_owns : (Ty → Ptr → Fml) → List Link → List R.Denot → Fml
  chain_owns frees [] xs = ftrue
  chain_owns frees (l ∷ ls) [] = ftrue
  chain_owns frees (l ∷ ls) (x ∷ xs) = fsep (node_owns frees l x) (chain_owns frees ls xs)

  -- what a `&` holds: a `&` to each node
  abbrev pub node_lent : Link → R.Denot → Lft → Fml
  node_lent l x = lent_at (Block.the_row R) l.0 (record { next = l.1; elem = x })

  abbrev pub chain_lent : List Link → List R.Denot → Lft → Fml
  chain_lent [] xs = nothing
  chain_lent (l ∷ ls) [] = nothing
  chain_lent (l ∷ ls) (x ∷ xs) = beside (node_lent l x) (chain_lent ls xs)
