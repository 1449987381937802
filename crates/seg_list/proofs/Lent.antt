-- The element of one node, apart from the rest of the chain. Assumes `Logic`.
use mathlib.Core.Path.{◌≡◌, refl, sym, ap, ◌∙◌}
use Prim.Native.Nat.{ℕ, zero, suc, ◌+◌, ◌<◌}
use native.Mathlib.Omega.{arith}
use mathlib.Core.List.{List, [], ◌∷◌, ◌++◌}
use lib.ListN.{length, set}
use seplogic.Ra.Ura.{Ura}
use base.Fraction.{full_share}
use mir.Syntax.{Tys, Sym, ty_ptr, ty_struct, tcons, tnil}
use mir.Raw.{raw as bare}
use mir.Val.{Val, Vals, vstruct, vcons, vnil}
use mir.Fields.{set_v}
use prog.Memory.{align, up}
use base.Logic.{SProp, ent, sep, all, all_e, wand, apply∗, id⊢}
use base.Fml.{Fml, fsep, fat}
use types.Logic.{Logic, sem}
use types.Kit.{‵, raw, some, ◌⊛◌, ◌$◌, ◌∵◌, !, qed, move, use1, use2, pick, split, fjoin, fpack, rewrite, done}
use denote.RattleType.{RattleType}
use denote.Memory.{cell_at, part_at, part_of, mem, lone}
use denote.RawPtr.{Ptr, block_ptr, ptr_val}
use denote.Param.{layout}
use denote.Param.Laws.{Laws}
use borrow.Table.OneValue.{part_out}
use Rattle.seg_list.specs.Links.{Link}
use Rattle.seg_list.specs.ElemLending.{with_elem}
use Rattle.seg_list.specs.Ownership.{heap_token}
use Rattle.seg_list.specs.contracts.node.Node as N
use Rattle.seg_list.proofs.ChainSteps.{words, node_val, R, X, D, Cr, Nd, node_ty, Held, One, chain_glue, chain_made, node_in}

pub split_at : {Y : Type 0} (xs : List Y) (i : ℕ) → i < length xs → (a : List Y) × (y : Y) × (b : List Y) × (xs ≡ a ++ y ∷ b) × (length a ≡ i)
split_at [] i p = absurd (omega arith)
split_at (x ∷ xs) zero p = ([], x, xs, refl, refl)
split_at (x ∷ xs) (suc i) p = let on = split_at xs i (omega arith) in (x ∷ on.0, on.1, on.2, ap (λ l. x ∷ l) on.3, omega (arith, on.4))

pub set-split : {Y : Type 0} (a : List Y) (y z : Y) (b : List Y) (i : ℕ) → length a ≡ i → set (a ++ y ∷ b) i z ≡ a ++ z ∷ b
set-split [] y z b zero e = refl
set-split [] y z b (suc i) e = absurd (omega (arith, e))
set-split (x ∷ a) y z b zero e = absurd (omega (arith, e))
set-split (x ∷ a) y z b (suc i) e = ap (λ l. x ∷ l) (set-split a y z b i (omega (arith, e)))

module _ (T : RattleType) where
  abbrev pub ν : Sym
  ν = (N.the_type (R T)).name

  abbrev pub τs : Tys
  τs = tcons ty_ptr (tcons (layout T) tnil)

  abbrev pub eo : ℕ
  eo = up (align (layout T)) 8

module _ (T : RattleType) (L : Laws T) {M : Type 1} {𝓤 : Ura M} (𝓛 : Logic 𝓤) (d : D T) (i rb ro b o : ℕ) (la lb : List Link) (m : Link) (xa xb : List (X T)) (x : X T) (w₀ : Val) where
  open 𝓛 use {H}

  abbrev vs : Vals
  vs = vcons (ptr_val m.1) (vcons w₀ vnil)

  abbrev pub Way : SProp 𝓤
  Way = all 𝓤 (λ (u : Val). wand 𝓤 (H.at full_share (layout T) b (o + eo T) u) (H.at full_share (ty_struct (ν T) (τs T)) b o (vstruct (set_v vs 1 u))))

  abbrev pub Block : Fml
  Block = heap_token d.heap (bare (lone (Nd T).mir)) (block_ptr b o)

  abbrev pub Words : Fml
  Words = cell_at full_share (Cr T).mir (words d.head d.tail ∷ []) rb ro

  -- all but the element
  abbrev pub Rest : SProp 𝓤
  Rest = sep 𝓤 Way (sep 𝓤 (sem 𝓛 Block) (sep 𝓤 (sem 𝓛 (Held T (heap_token d.heap) lb xb)) (sep 𝓤 (sem 𝓛 (Held T (heap_token d.heap) la xa)) (sem 𝓛 Words))))

  pub back : d.links ≡ la ++ m ∷ lb → d.items ≡ xa ++ x ∷ xb → length la ≡ i → length xa ≡ i → m.0 ≡ block_ptr b o
      → (w : X T) → ent 𝓤 (sep 𝓤 (sem 𝓛 ((mem (R T)).own_at w b (o + eo T))) Rest) (sem 𝓛 ((mem (Cr T)).own_at (with_elem d i w) rb ro))
  unfolding part_of
  back el ex ll lx e w =
      let new : D T = with_elem d i w in
      qed 𝓛 (‵ (part_at (R T) full_share w b (o + eo T)) ∷ raw Rest ∷ []) ∵ move ! (1 ∷ []) $
      use1 𝓛 (raw Way ⊛ (‵ Block ⊛ (‵ (Held T (heap_token d.heap) lb xb) ⊛ (‵ (Held T (heap_token d.heap) la xa) ⊛ ‵ Words)))) (id⊢ 𝓤 _) $
      split ! $ move ! (1 ∷ []) $ split ! $ move ! (1 ∷ []) $ split ! $ move ! (1 ∷ []) $ split ! $ move ! (5 ∷ []) $
      -- [the element; the nodes before; the words; the nodes after; the block; the way back]
      use1 𝓛 (some (λ (v : Val). ‵ (fat full_share (layout T) b (o + eo T) v) ⊛ ‵ (T.own_val w (v ∷ [])))) (part_out 𝓛 (R T) refl full_share w b (o + eo T)) $ pick ! (λ v. split ! $ move ! (6 ∷ []) $
      use1 𝓛 (raw (wand 𝓤 (H.at full_share (layout T) b (o + eo T) v) (H.at full_share (ty_struct (ν T) (τs T)) b o (vstruct (set_v vs 1 v)))))
      (all_e 𝓤 (λ (u : Val). wand 𝓤 (H.at full_share (layout T) b (o + eo T) u) (H.at full_share (ty_struct (ν T) (τs T)) b o (vstruct (set_v vs 1 u)))) v) $ move ! (1 ∷ 0 ∷ []) $
      use2 𝓛 (‵ (fat full_share (node_ty T) b o (node_val m.1 v))) (apply∗ 𝓤 (H.at full_share (layout T) b (o + eo T) v) (H.at full_share (ty_struct (ν T) (τs T)) b o (vstruct (set_v vs 1 v)))) $
      node_in T L ! m.1 w b o v $ move ! (0 ∷ 4 ∷ []) $ fjoin ! $ rewrite ! 0 (λ (p : Ptr). ‵ (One T (heap_token d.heap) (p, m.1) w)) (sym e) refl $
      move ! (0 ∷ 3 ∷ []) $ fjoin ! $ move ! (1 ∷ 0 ∷ []) $
      use2 𝓛 (‵ (Held T (heap_token d.heap) (la ++ m ∷ lb) (xa ++ w ∷ xb))) (chain_glue T 𝓛 (heap_token d.heap) la (m ∷ lb) xa (w ∷ xb) (ll ∙ sym lx)) $
      rewrite ! 0 (λ (ls : List Link). ‵ (Held T (heap_token d.heap) ls (xa ++ w ∷ xb))) (sym el) refl $
      rewrite ! 0 (λ (ys : List (X T)). ‵ (Held T (heap_token d.heap) d.links ys)) (sym (ap (λ ys. set ys i w) ex ∙ set-split xa x w xb i lx)) refl $
      chain_made T ! new $ move ! (1 ∷ 0 ∷ []) $ fjoin ! $
      fpack ! (List Val) (λ us. fsep (cell_at full_share (Cr T).mir us rb ro) ((Cr T).own_val new us)) (words d.head d.tail ∷ []) $ done !)
