-- A `&` to a chain is made where one to an element is. Assumes `Logic`.
use mathlib.Core.List.{List, [], ◌∷◌}
use seplogic.Ra.Ura.{Ura}
use mir.Syntax.{Ty}
use base.Fml.{Lft, Fml, ftrue, Incl}
use mir.Raw.{raw as bare}
use base.Fraction.{full_share}
use types.Logic.{Logic}
use denote.RattleType.{RattleType}
use denote.Memory.{lone}
use denote.Param.Laws.{Laws}
use denote.RawPtr.{Ptr, lies_at}
use denote.Sharing.{ShrLaws}
use denote.SharingLaws.{beside_shr_laws, nothing_shr_laws}
use denote.Shares.{Shares-less}
use denote.Struct.Lending.{lent_at_shr_laws, Lends-lies, Lends-first, Lends, Lends-both, Lends-nothing}
use Rattle.seg_list.specs.Links.{Link}
use Rattle.seg_list.specs.Ownership.{node_owns, chain_owns, node_lent, chain_lent}
use Rattle.seg_list.specs.contracts.node.Node as N
use Rattle.seg_list.specs.declared.node.Node.{Node}
use Rattle.seg_list.proofs.node.Node.TheLaws as node_laws

module _ (R : RattleType) (L : Laws R) where
  pub chain_lent_laws : (ls : List Link) (xs : List R.Denot) → ShrLaws (chain_lent R ls xs)
  chain_lent_laws [] xs = nothing_shr_laws
  chain_lent_laws (l ∷ ls) [] = nothing_shr_laws
  chain_lent_laws (l ∷ ls) (x ∷ xs) = beside_shr_laws _ _ (lent_at_shr_laws (N.the_row R) (node_laws.the_row_laws R L).shr_laws l.0 (record { next = l.1; elem = x })) (chain_lent_laws ls xs)

  module _ {M : Type 1} {𝓤 : Ura M} (𝓛 : Logic 𝓤) (frees : Ty → Ptr → Fml) (l : Lft) (inc : Incl l (N.the_row R).lives) where
    pub Lends-chain : (ls : List Link) (xs : List R.Denot) → Lends 𝓛 (chain_owns R frees ls xs) (chain_lent R ls xs) l
    Lends-chain [] xs = Lends-nothing 𝓛 ftrue l
    Lends-chain (k ∷ ls) [] = Lends-nothing 𝓛 ftrue l
    Lends-chain (k ∷ ls) (x ∷ xs) =
        let v : Node R.Denot = record { next = k.1; elem = x } in
        Lends-both 𝓛 (node_owns R frees k x) (chain_owns R frees ls xs) (node_lent R k x) (chain_lent R ls xs) l
        (Lends-first 𝓛 (lies_at (N.the_row R) full_share k.0 v) (frees (bare (lone (N.the_row R).mir)) k.0) (node_lent R k x) l
        (Lends-lies 𝓛 (N.the_row R) l k.0 v (Shares-less 𝓛 (N.the_row R) (N.the_row R).lives l inc ((node_laws.the_row_laws R L).shares 𝓛) v)))
        (Lends-chain ls xs)
