-- The machine value of a box, also of one that is held by its pointer. Assumes `Logic`.
--     loose_had, loose_made    of a `Loose`: [the box; the handle]
--     parts_had                of what a box is taken apart to: [the handle]
--     box_tells, box_one       of a box, which stays
use mathlib.Core.Path.{◌≡◌, refl, sym, ap, subst, ◌∙◌}
use Prim.Native.Nat.{ℕ}
use mathlib.Core.List.{List, [], ◌∷◌, ◌++◌}
use seplogic.Ra.Ura.{Ura}
use mir.Syntax.{impl, tnil, dnil}
use mir.Raw.{raw as bare}
use mir.Val.{Val, vptr, vstruct, of_list}
use base.Logic.{never, fst∗}
use types.Logic.{Logic, sem}
use types.Kit.{Item, Goal, Seq, Step, step, ‵, ◌$◌, move, drop, fsplit, fjoin, fpick, fpack, feq_i, feq_l, rewrite}
use denote.RattleType.{RattleType, Valss}
use denote.Builtin.{RawPtr}
use denote.Memory.{lone}
use denote.RawPtr.{Ptr, block_ptr, null_ptr, ptr_val, in_a_block}
use denote.Steps.{nothing, only}
use denote.Param.{layout}
use denote.Param.Laws.{Laws}
use denote.Struct.Struct.{within}
use denote.Struct.Owning.{shape}
use denote.Struct.Tuple.{Tuple}
use Rattle.core.specs.declared.alloc.Allocator.{Ghosts}
use Rattle.core.proofs.alloc.Calls.{Al, handle_tells}
use Rattle.std_alloc.proofs.RcSteps.{Good}
use Rattle.std_alloc.proofs.Pairs.{pair_val}
use Rattle.std_alloc.specs.Box.Ownership.{box_owns}
use Rattle.std_alloc.proofs.BoxSteps.Form.{Bx, B, D, word, box_typed}
use Rattle.std_alloc.proofs.BoxSteps.Steps.{box_out, box_in}
use Rattle.seg_list.specs.contracts.node.Loose as Held

module _ (R Z : RattleType) (L : Laws Z) (g : Ghosts Z.Denot) where
  abbrev pub Loose : RattleType
  Loose = Held.the_row R Z g

  abbrev handle : Al
  handle = record { row = Z; laws = L; g = g; d = impl [] tnil dnil; drops = impl [] tnil dnil }

  module _ {M : Type 1} {𝓤 : Ura M} {𝓛 : Logic 𝓤} {K : Type 0} {Γ : List (Item 𝓤)} {G : Goal 𝓤 𝓛.H} where
    -- [the box; the handle]
    pub loose_had : K → (l : Loose.Denot) (vs : List Val)
        → ((b o : ℕ) (h : Val) → vs ≡ pair_val (vptr b o) h ∷ [] → Good (layout Z) h → Seq K 𝓛 (‵ (box_owns (g.dealloc_token l.alloc) R (block_ptr b o) l.value) ∷ ‵ (Z.own_val l.alloc (h ∷ [])) ∷ Γ) G)
        → Seq K 𝓛 (‵ (Loose.own_val l vs) ∷ Γ) G
    loose_had t l vs k =
        fsplit t $ fpick t (λ words. fsplit t $ feq_l t (λ all. fsplit t $ feq_l t (λ at. fsplit t $
        handle_tells handle t l.alloc words.1.0 (λ h tells fits. move t (1 ∷ []) $ drop t $ move t (1 ∷ []) $
        in_a_block t l.at (λ p. box_owns (g.dealloc_token l.alloc) R p l.value) (fst∗ 𝓤 (never 𝓤) (sem 𝓛 (g.dealloc_token l.alloc (bare (lone R.mir)) null_ptr))) (λ b o lies.
        k b o h (all ∙ (λ i. vstruct (of_list ((at ∙ ap (λ (p : Ptr). ptr_val p ∷ []) lies) i ++ (tells i ++ []))) ∷ [])) fits)))))

    pub loose_made : K → (b o : ℕ) (h : Val) (a : Z.Denot) (x : R.Denot)
        → Step K 𝓛 (‵ (Loose.own_val (record { at = block_ptr b o; alloc = a; value = x }) (pair_val (vptr b o) h ∷ [])) ∷ Γ) G (‵ (box_owns (g.dealloc_token a) R (block_ptr b o) x) ∷ ‵ (Z.own_val a (h ∷ [])) ∷ Γ) G
    loose_made t b o h a x = step (λ s.
        let at = vptr b o ∷ [] in
        let both = pair_val (vptr b o) h ∷ [] in
        nothing t $ move t (2 ∷ 0 ∷ []) $ fjoin t $ feq_i t (List Val) at at refl $ fjoin t $ feq_i t (List Val) both both refl $ fjoin t $
        fpack t (Valss (RawPtr ∷ Z ∷ [])) (within (shape (Held.the_type R Z g)) (block_ptr b o, (a, tt)) both) (at, (h ∷ [], tt)) $ fjoin t $ s)

    pub parts_had : K → (parts : Ptr × Z.Denot) (u : Val)
        → ((h : Val) → u ≡ pair_val (ptr_val parts.0) h → Good (layout Z) h → Seq K 𝓛 (‵ (Z.own_val parts.1 (h ∷ [])) ∷ Γ) G)
        → Seq K 𝓛 (‵ ((Tuple (RawPtr ∷ Z ∷ [])).own_val parts (u ∷ [])) ∷ Γ) G
    parts_had t parts u k =
        fpick t (λ words. fsplit t $ feq_l t (λ all. fsplit t $ feq_l t (λ at. fsplit t $
        handle_tells handle t parts.1 words.1.0 (λ h tells fits. move t (1 ∷ []) $ drop t $ k h (ap only (all ∙ (λ i. vstruct (of_list (at i ++ (tells i ++ []))) ∷ []))) fits))))

module _ (E : Bx) {M : Type 1} {𝓤 : Ura M} {𝓛 : Logic 𝓤} {K : Type 0} {Γ : List (Item 𝓤)} {G : Goal 𝓤 𝓛.H} where
  pub box_tells : K → (d : D E) (vs : List Val) → ((u : Val) → vs ≡ u ∷ [] → Good (layout (B E)) u → Seq K 𝓛 (‵ ((B E).own_val d (u ∷ [])) ∷ Γ) G) → Seq K 𝓛 (‵ ((B E).own_val d vs) ∷ Γ) G
  box_tells t d vs k = box_out E t d vs (λ b o h lies is fits. box_in E t d b o d.value lies refl $ k (word E h b o) is (box_typed E h b o fits))

module _ (E : Bx) {M : Type 1} {𝓤 : Ura M} {𝓛 : Logic 𝓤} {K : Type 0} {Γ : List (Item 𝓤)} {G : Goal 𝓤 𝓛.H} where
  pub box_one : K → (d : D E) (u : Val) → (Good (layout (B E)) u → Seq K 𝓛 (‵ ((B E).own_val d (u ∷ [])) ∷ Γ) G) → Seq K 𝓛 (‵ ((B E).own_val d (u ∷ [])) ∷ Γ) G
  box_one t d u k =
      box_tells E t d (u ∷ []) (λ w is fits. rewrite t 0 (λ (us : List Val). ‵ ((B E).own_val d us)) (sym is) refl $ k (subst (Good (layout (B E))) (sym (ap only is)) fits))
