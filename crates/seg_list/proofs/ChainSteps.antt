-- What a chain owns is taken apart and made, at any element type. Assumes `Logic`.
--     chain_had, chain_made      the two words and the nodes
--     chain_cut, chain_glue      two rows of nodes
--     node_out, node_in          a node in memory is its cell and what its element owns
use mathlib.Core.Path.{◌≡◌, refl, ap, subst, ◌∙◌}
use Prim.Native.Nat.{ℕ, zero, suc, ◌+◌, ◌<◌}
use native.Mathlib.Omega.{arith}
use mathlib.Core.List.{List, [], ◌∷◌, ◌++◌}
use lib.ListN.{length, get_or}
use seplogic.Ra.Ura.{Ura}
use base.Fraction.{full_share}
use mir.Syntax.{Ty, ty_ptr}
use mir.Val.{Val, vstruct, vcons, vnil, of_list}
use base.Logic.{ent, sep, via, fst∗, snd∗}
use base.Fml.{Lft, Share, Fml, fat, flft}
use types.Logic.{Logic, sem}
use types.Kit.{fsplit3, Item, Goal, Seq, Step, Soaks, step, ‵, some, ◌⊛◌, ◌$◌, ◌∵◌, !, qed, move, drop, use1, use2, pick, split, fsplit, fjoin, fpick, fpack, feq_i, feq_l, rewrite, done}
use denote.RattleType.{RattleType, Valss}
use denote.Laws.{Typed, Is, shows}
use denote.Memory.{cell_at, part_at, hidden_shr}
use denote.RawPtr.{Ptr, RawPtr, coded_ptr, ptr_own, rawptr_pure, ptr_val}
use denote.Copied.{plain_Copied}
use denote.Struct.Laws.{RawPtr-laws}
use denote.Opens.{Shut, unhide, hide}
use denote.Param.{param, layout}
use denote.Param.Laws.{Laws, param_laws}
use denote.Steps.{nothing, only, peeks, looks, shuts}
use denote.Struct.Struct.{within}
use denote.Struct.Owning.{Owning, shape}
use denote.Struct.Declared as Declared
use borrow.Table.OneValue.{part_in, part_out}
use Rattle.std_alloc.proofs.RcSteps.{Good, word}
use Rattle.seg_list.specs.contracts.chain.Place as P
use Rattle.seg_list.specs.declared.chain.Place.{Place}
use Rattle.seg_list.specs.contracts.chain.Chain as C
use Rattle.seg_list.specs.contracts.node.Node as N
use Rattle.seg_list.specs.declared.chain.Chain.{Chain}
use Rattle.seg_list.specs.declared.node.Node.{Node}
use Rattle.seg_list.specs.Links.{Link, link_at}
use Rattle.seg_list.specs.Ownership.{heap_token, node_owns, chain_owns, node_lent, chain_lent}

abbrev pub words : Ptr → Ptr → Val
words h t = vstruct (vcons (ptr_val h) (vcons (ptr_val t) vnil))

abbrev pub node_val : Ptr → Val → Val
node_val n w = vstruct (vcons (ptr_val n) (vcons w vnil))

module _ (T : RattleType) where
  abbrev pub R : RattleType
  R = param 0 T

  abbrev pub X : Type 0
  X = T.Denot

  abbrev pub owning : Owning
  owning = C.the_type R

  abbrev pub Cr : RattleType
  Cr = C.the_row R

  abbrev pub D : Type 0
  D = Chain X

  abbrev pub Nd : RattleType
  Nd = N.the_row R

  abbrev pub node_ty : Ty
  node_ty = layout Nd

  abbrev pub Held : (Ty → Ptr → Fml) → List Link → List X → Fml
  Held = chain_owns R

  abbrev pub Pl : RattleType
  Pl = P.the_row R

  abbrev pub at_place : Ptr → Place X
  at_place c = record { ptr = c }

  abbrev pub One : (Ty → Ptr → Fml) → Link → X → Fml
  One = node_owns R

module _ (T : RattleType) {M : Type 1} {𝓤 : Ura M} (𝓛 : Logic 𝓤) (frees : Ty → Ptr → Fml) where
  pub chain_cut : (ns ms : List Link) (xs ys : List (X T)) → length ns ≡ length xs → ent 𝓤 (sem 𝓛 (Held T frees (ns ++ ms) (xs ++ ys))) (sep 𝓤 (sem 𝓛 (Held T frees ns xs)) (sem 𝓛 (Held T frees ms ys)))
  chain_cut [] ms [] ys e = qed 𝓛 (‵ (Held T frees ms ys) ∷ []) ∵ nothing ! $ done !
  chain_cut [] ms (x ∷ xs) ys e = absurd (omega arith)
  chain_cut (n ∷ ns) ms [] ys e = absurd (omega arith)
  chain_cut (n ∷ ns) ms (x ∷ xs) ys e = qed 𝓛 (‵ (Held T frees (n ∷ ns ++ ms) (x ∷ xs ++ ys)) ∷ []) ∵
      fsplit ! $ move ! (1 ∷ []) $ use1 𝓛 (‵ (Held T frees ns xs) ⊛ ‵ (Held T frees ms ys)) (chain_cut ns ms xs ys (omega arith)) $ split ! $ move ! (2 ∷ 0 ∷ []) $ fjoin ! $ done !

  pub chain_glue : (ns ms : List Link) (xs ys : List (X T)) → length ns ≡ length xs → ent 𝓤 (sep 𝓤 (sem 𝓛 (Held T frees ns xs)) (sem 𝓛 (Held T frees ms ys))) (sem 𝓛 (Held T frees (ns ++ ms) (xs ++ ys)))
  chain_glue [] ms [] ys e = qed 𝓛 (‵ (Held T frees [] []) ∷ ‵ (Held T frees ms ys) ∷ []) ∵ drop ! $ done !
  chain_glue [] ms (x ∷ xs) ys e = absurd (omega arith)
  chain_glue (n ∷ ns) ms [] ys e = absurd (omega arith)
  chain_glue (n ∷ ns) ms (x ∷ xs) ys e = qed 𝓛 (‵ (Held T frees (n ∷ ns) (x ∷ xs)) ∷ ‵ (Held T frees ms ys) ∷ []) ∵
      fsplit ! $ move ! (1 ∷ 2 ∷ []) $ use2 𝓛 (‵ (Held T frees (ns ++ ms) (xs ++ ys))) (chain_glue ns ms xs ys (omega arith)) $ move ! (1 ∷ 0 ∷ []) $ fjoin ! $ done !

module _ (T : RattleType) {M : Type 1} {𝓤 : Ura M} {𝓛 : Logic 𝓤} {K : Type 0} {Γ : List (Item 𝓤)} {G : Goal 𝓤 𝓛.H} where
  pub chain_had : K → (d : D T) (vs : List Val) → (vs ≡ words d.head d.tail ∷ [] → Seq K 𝓛 (‵ (Held T (heap_token d.heap) d.links d.items) ∷ Γ) G) → Seq K 𝓛 (‵ ((Cr T).own_val d vs) ∷ Γ) G
  chain_had t d vs k =
      fsplit t $ fpick t (λ vss. fsplit t $ feq_l t (λ all. fsplit t $ feq_l t (λ e₀. fsplit t $ feq_l t (λ e₁. drop t $
      k (all ∙ (λ i. vstruct (of_list (e₀ i ++ (e₁ i ++ []))) ∷ []))))))

  pub chain_made : K → (d : D T) → Step K 𝓛 (‵ ((Cr T).own_val d (words d.head d.tail ∷ [])) ∷ Γ) G (‵ (Held T (heap_token d.heap) d.links d.items) ∷ Γ) G
  chain_made t d = step (λ s.
      let v = words d.head d.tail in
      nothing t $ feq_i t (List Val) (ptr_val d.tail ∷ []) (ptr_val d.tail ∷ []) refl $ fjoin t $ feq_i t (List Val) (ptr_val d.head ∷ []) (ptr_val d.head ∷ []) refl $ fjoin t $
      feq_i t (List Val) (v ∷ []) (v ∷ []) refl $ fjoin t $
      fpack t (Valss (shape (owning T)).fields) (within (shape (owning T)) (d.head, (d.tail, tt)) (v ∷ [])) (ptr_val d.head ∷ [], (ptr_val d.tail ∷ [], tt)) $ fjoin t $ s)

alone : (τ : Ty) (vs : List Val) → Typed (τ ∷ []) vs → (v : Val) × ((vs ≡ v ∷ []) × Good τ v)
alone τ [] t = absurd t
alone τ (v ∷ []) t = (v, (refl, t.0))
alone τ (v ∷ w ∷ vs) t = absurd t.1

module _ (T : RattleType) (L : Laws T) {M : Type 1} {𝓤 : Ura M} {𝓛 : Logic 𝓤} {K : Type 0} {Γ : List (Item 𝓤)} {G : Goal 𝓤 𝓛.H} where
  pub tells : K → (x : X T) (vs : List Val) → ((v : Val) → vs ≡ v ∷ [] → Good (layout T) v → Seq K 𝓛 (‵ (T.own_val x (v ∷ [])) ∷ Γ) G) → Seq K 𝓛 (‵ (T.own_val x vs) ∷ Γ) G
  tells t x vs k =
      peeks t (param 0 T) (Is (param 0 T)) (shows 𝓛 (param 0 T)) x vs (λ is.
      let one = alone (layout T) vs (((param_laws 0 T L).lawful 𝓛).typed x vs is) in
      rewrite t 0 (λ (us : List Val). ‵ (T.own_val x us)) one.1.0 refl $ k one.0 one.1.0 one.1.1)

module _ (T : RattleType) (L : Laws T) {M : Type 1} {𝓤 : Ura M} {𝓛 : Logic 𝓤} {K : Type 0} {Γ : List (Item 𝓤)} {G : Goal 𝓤 𝓛.H} where
  -- [the node's cell; what its element owns]
  pub node_out : K → (n : Ptr) (x : X T) (b o : ℕ)
      → ((w : Val) → Good (layout T) w → Seq K 𝓛 (‵ (fat full_share (node_ty T) b o (node_val n w)) ∷ ‵ (T.own_val x (w ∷ [])) ∷ Γ) G)
      → Seq K 𝓛 (‵ (part_at (Nd T) full_share (record { next = n; elem = x }) b o) ∷ Γ) G
  node_out t n x b o k =
      let d : Node (X T) = record { next = n; elem = x } in
      use1 𝓛 (some (λ (v : Val). ‵ (fat full_share (node_ty T) b o v) ⊛ ‵ ((Nd T).own_val d (v ∷ [])))) (part_out 𝓛 (Nd T) refl full_share d b o) $ pick t (λ v. split t $ move t (1 ∷ []) $
      fpick t (λ vss. fsplit t $ feq_l t (λ all. fsplit t $ feq_l t (λ e₀. fsplit t $ tells T L t x vss.1.0 (λ w e₁ good. move t (1 ∷ []) $ drop t $ move t (1 ∷ 0 ∷ []) $
      rewrite t 0 (λ (u : Val). ‵ (fat full_share (node_ty T) b o u)) (ap only (all ∙ (λ i. vstruct (of_list (e₀ i ++ (e₁ i ++ []))) ∷ []))) refl $ k w good)))))

  pub node_in : K → (n : Ptr) (x : X T) (b o : ℕ) (w : Val)
      → Step K 𝓛 (‵ (part_at (Nd T) full_share (record { next = n; elem = x }) b o) ∷ Γ) G (‵ (fat full_share (node_ty T) b o (node_val n w)) ∷ ‵ (T.own_val x (w ∷ [])) ∷ Γ) G
  node_in t n x b o w = step (λ s.
      let d : Node (X T) = record { next = n; elem = x } in
      let v = node_val n w in
      move t (1 ∷ []) $ nothing t $ move t (1 ∷ 0 ∷ []) $ fjoin t $ feq_i t (List Val) (ptr_val n ∷ []) (ptr_val n ∷ []) refl $ fjoin t $
      feq_i t (List Val) (v ∷ []) (v ∷ []) refl $ fjoin t $
      fpack t (Valss (RawPtr ∷ R T ∷ [])) (within (Declared.shape (N.the_type (R T))) (n, (x, tt)) (v ∷ [])) (ptr_val n ∷ [], (w ∷ [], tt)) $ move t (1 ∷ 0 ∷ []) $
      use2 𝓛 (‵ (part_at (Nd T) full_share d b o)) (part_in 𝓛 (Nd T) refl full_share d b o v) $ s)

module _ (T : RattleType) {M : Type 1} {𝓤 : Ura M} {𝓛 : Logic 𝓤} {K : Type 0} {Γ : List (Item 𝓤)} {G : Goal 𝓤 𝓛.H} where
  pub place_had : K → (c : Ptr) (vs : List Val) → (vs ≡ word c ∷ [] → Seq K 𝓛 Γ G) → Seq K 𝓛 (‵ ((Pl T).own_val (at_place T c) vs) ∷ Γ) G
  place_had t c vs k = fpick t (λ vss. fsplit t $ feq_l t (λ ev. fsplit t $ feq_l t (λ e. drop t $ k (subst (λ (ws : List Val). vs ≡ vstruct (of_list (ws ++ [])) ∷ []) e ev))))

  pub place_made : K → (c : Ptr) → Step K 𝓛 (‵ ((Pl T).own_val (at_place T c) (word c ∷ [])) ∷ Γ) G Γ G
  place_made t c = step (λ s.
      nothing t $ feq_i t (List Val) (ptr_val c ∷ []) (ptr_val c ∷ []) refl $ fjoin t $ feq_i t (List Val) (word c ∷ []) (word c ∷ []) refl $ fjoin t $
      fpack t (Valss (RawPtr ∷ [])) (within (Declared.shape (P.the_type (R T))) (c, tt) (word c ∷ [])) (ptr_val c ∷ [], tt) $ s)

  -- [`head`; `tail`; the nodes]
  pub chain_seen : K → {κ : Lft} (d : D T) (b o : ℕ)
      → Step K 𝓛 (‵ (hidden_shr RawPtr κ d.head b (o + 0)) ∷ ‵ (hidden_shr RawPtr κ d.tail b (o + 8)) ∷ ‵ (chain_lent (R T) d.links d.items κ) ∷ Γ) G
      (‵ (hidden_shr (Cr T) κ d b o) ∷ Γ) G
  chain_seen t d b o = step (λ s.
      unhide t $ fsplit t $ fsplit t $ move t (1 ∷ []) $ drop t $ fsplit3 t $ move t (2 ∷ []) $ drop t $ hide t $ move t (1 ∷ []) $ hide t $ move t (1 ∷ []) $ s)

  -- a node's `next`
  pub link_seen : K → {κ : Lft} (v : Node (X T)) (b o : ℕ) → Step K 𝓛 (‵ (hidden_shr RawPtr κ v.next b (o + 0)) ∷ Γ) G (‵ (hidden_shr (Nd T) κ v b o) ∷ Γ) G
  link_seen t v b o = step (λ s. unhide t $ fsplit t $ move t (1 ∷ []) $ drop t $ fsplit t $ move t (1 ∷ []) $ drop t $ hide t $ s)

  pub pointer_in : K → Soaks G → {κ : Lft} {q : Share} (p : Ptr) (b at : ℕ)
      → ((part : Share) → Seq K 𝓛 (‵ (fat part ty_ptr b at (ptr_val p)) ∷ Shut 𝓛 κ q (part_at RawPtr part p b at) ∷ Γ) G) → Seq K 𝓛 (‵ (hidden_shr RawPtr κ p b at) ∷ ‵ (flft κ q) ∷ Γ) G
  pointer_in t z p b at k =
      looks t z RawPtr (plain_Copied 𝓛 Ptr coded_ptr (ty_ptr ∷ []) ptr_own rawptr_pure ptr_val RawPtr-laws.tells).opens p b at (λ part vs. move t (1 ∷ []) $ feq_l t (λ e.
      rewrite t 0 (λ (us : List Val). ‵ (cell_at part RawPtr.mir us b at)) e refl $ move t (2 ∷ []) $ drop t $ k part))

  pub pointer_out : K → Soaks G → {κ : Lft} {q part : Share} (p : Ptr) (b at : ℕ)
      → Step K 𝓛 (‵ (flft κ q) ∷ Γ) G (‵ (fat part ty_ptr b at (ptr_val p)) ∷ Shut 𝓛 κ q (part_at RawPtr part p b at) ∷ Γ) G
  pointer_out t z {part = part} p b at = step (λ s.
      feq_i t (List Val) (ptr_val p ∷ []) (ptr_val p ∷ []) refl $ move t (1 ∷ 0 ∷ []) $ shuts t z RawPtr part p (ptr_val p ∷ []) b at $ s)

module _ (T : RattleType) {M : Type 1} {𝓤 : Ura M} (𝓛 : Logic 𝓤) (κ : Lft) where
  -- what is lent of the i-th node
  pub node_seen : (ls : List Link) (xs : List (X T)) (i : ℕ) (y : X T) → i < length ls → i < length xs
      → ent 𝓤 (sem 𝓛 (chain_lent (R T) ls xs κ)) (sem 𝓛 (node_lent (R T) (link_at ls i) (get_or xs i y) κ))
  node_seen [] xs i y p q = absurd (omega arith)
  node_seen (l ∷ ls) [] i y p q = absurd (omega arith)
  node_seen (l ∷ ls) (x ∷ xs) zero y p q = fst∗ 𝓤 _ (sem 𝓛 (chain_lent (R T) ls xs κ))
  node_seen (l ∷ ls) (x ∷ xs) (suc i) y p q = via 𝓤 _ (snd∗ 𝓤 (sem 𝓛 (node_lent (R T) l x κ)) _) (node_seen ls xs i y (omega arith) (omega arith))
