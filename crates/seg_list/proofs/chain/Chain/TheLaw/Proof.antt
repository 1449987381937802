-- A `&` to a chain is made where one to an element is. Assumes `Logic`.
use base.Fml.{Incl-trans}
use mathlib.Core.List.{[], ◌++◌}
use contract.BorrowLft.{meet_⊑_left}
use Rattle.seg_list.proofs.node.Node.TheLaws as node_laws
use denote.RattleType.{RattleType}
use denote.Param.Laws.{Laws}
use denote.Param.Shared.{copy_shared}
use denote.Struct.Field.{RawPtr-field}
use denote.Struct.Laws.{RawPtr-copy}
use denote.Struct.Lending.{of_Lends}
use Rattle.seg_list.specs.contracts.chain.Chain as C
use Rattle.seg_list.proofs.chain.Chain.TheLaw.Statement.{statement}
use Rattle.seg_list.specs.Ownership.{heap_token}
use Rattle.seg_list.proofs.Shared.{chain_lent_laws, Lends-chain}

pub shares : (R : RattleType) (L : Laws R) → statement R L
shares R L = of_Lends (C.struct R) (C.the_codes R.Denot R.coded) (C.the_heap R) (C.the_lent R)
    (λ d p. chain_lent_laws R L d.links d.items) (copy_shared RawPtr-field RawPtr-copy, (copy_shared RawPtr-field RawPtr-copy, tt))
    (λ M 𝓤 𝓛 d p. Lends-chain R L 𝓛 (heap_token d.heap) (C.the_row R).lives (node_laws.the_within R (C.the_row R).lives (Incl-trans (meet_⊑_left (R.lives ++ []) _) (meet_⊑_left R.lives []))) d.links d.items)
