-- `behead` takes the first node out.
use Rattle.std.proofs.Common.{◌≡◌, ◌<◌, List, [], ◌∷◌, ◌++◌, length, refl, sym, ap, ◌∙◌, subst, arith}
use mir.Syntax.{impl, tnil, dnil, a_type, ty_ptr}
use mir.Raw.{raw as bare}
use mir.Val.{Val, vptr}
use mir.MapTy.{inst_fn}
use base.Logic.{SProp, ent, emp, never, id⊢, fst∗}
use base.Fml.{ftrue, flft}
use prog.Wp.{WpFn}
use types.Logic.{sem}
use types.Kit.{‵, raw, ◌⊛◌, at_ret, ◌$◌, ◌∵◌, !, qed, by, move, keep, drop, split, fsplit, fjoin, suffices, use0, use2, rewrite}
use types.Run.{load, stop, fld, of_opd, no_more, and_then, first, blocks, exec, returns, enter}
use types.ByLocal.{sets_last, alloc_all, pass_all, free_all, look_at, get, get_in, through, sets, is, env}
use types.Part.{look_in, agg, sub, whole}
use contract.Monad.{fact, fact_i}
use contract.BorrowLft.{◌⊑◌}
use contract.Running.{tables}
use denote.Exit.{yes, no}
use denote.RattleType.{owns}
use denote.Signature.{types_at, plain}
use denote.Memory.{lone}
use denote.RawPtr.{Ptr, block_ptr, null_ptr, ptr_val, in_a_block}
use denote.Steps.{nothing, heard}
use denote.Param.{layout, layouts}
use denote.Struct.Struct.{as_fields}
use denote.Triple.Walked.{Goes-dropped, Stays, stay_dropped, walk_of}
use Rattle.core.proofs.alloc.Calls.{Al, Goes-blank, handle_tells}
use Rattle.core.proofs.alloc.Shapes.{after}
use Rattle.std_alloc.proofs.RcSteps.{Good, Ptr-Good}
use Rattle.std.proofs.raw_atomic.Walks.{proved_at, leaves}
use Rattle.std.specs.contracts.alloc.Global as heap
use Rattle.std.proofs.alloc.Global.TheLaws as heap_laws
use Rattle.std.specs.contracts.impls.GlobalAllocator.TheImpl.{ghosts}
use Rattle.seg_list.proofs.LooseSteps.{Loose, loose_made}
use Rattle.std_alloc.proofs.Pairs.{pair_Typed, pair_val, pair_of}
use denote.Struct.Tuple.{Tuple}
use Rattle.seg_list.specs.Links.{Link, IsChained}
use Rattle.seg_list.proofs.Chained.{IsChained-had, IsChained-tail, uncons}
use Rattle.seg_list.specs.Ownership.{heap_token}
use Rattle.seg_list.proofs.ChainSteps.{words, Cr, D, X, Nd, Held, One, chain_had, chain_made, node_out, node_in}
use Rattle.seg_list.specs.contracts.chain.Chain.behead.{ended, clauses}
use Rattle.seg_list.specs.contracts.chain.Chain.behead.Key.{name as #self}
use Rattle.seg_list.proofs.chain.Chain.behead.Statement.{statement}
use Rattle.seg_list.proofs.chain.Chain.behead.Code as code

pub behead_spec : {M : Type 1} → statement M
behead_spec 𝓤 𝓛 𝓜 𝓡 wired T L =
    let H = 𝓛.H in let 𝓣 = tables 𝓤 H 𝓜 𝓡 𝓡.env in let En = ended T in let c = clauses T 𝓛 𝓜.mem 𝓡.returns in
    let args = layouts (a_type ∷ []) (T, tt) in let fn = inst_fn args code.function in
    let LG = heap_laws.the_row_laws in let G = heap.the_row in let Lo = Loose (Nd T) G LG ghosts in
    let al : Al = record { row = G; laws = LG; g = ghosts; d = impl [] tnil dnil; drops = impl [] tnil dnil } in
    let hs : Stays En.signature.params En.kept = (stay_dropped (plain (λ _. Cr T)) no, (stay_dropped (plain (λ _. G)) yes, tt)) in
    proved_at 𝓛 En hs c 𝓜 𝓡 (Goes-blank 𝓛 1 (plain (λ _. Cr T)) no (λ κs x f. tt), (Goes-dropped 𝓛 1 (plain (λ _. G)) yes (λ κs x w. refl), tt)) (#self args) fn (code.unfolded 𝓤 H 𝓜 𝓡 wired (T, tt)) (λ z are.
    let κs = z.0.0 in let qs = z.0.1 in let d : D T = z.0.3.0 in let a = z.0.3.1.0 in
    let Post : Val → SProp 𝓤 = (walk_of 𝓛 En hs c).post z in let Run : List Val → SProp 𝓤 = λ ws. WpFn 𝓤 H 𝓣.C 𝓣.Λ fn ws Post in
    let toks = ‵ (flft κs.0 qs.0) ⊛ ‵ ftrue in
    let Asks : Type 0 = 0 < length d.items in
    qed 𝓛 ((toks ⊛ ‵ (owns (types_at En.signature.params κs) z.0.3 z.0.4)) ∷ (raw (fact 𝓤 (κs.0 ⊑ T.lives)) ⊛ raw (fact 𝓤 Asks)) ∷ []) ∵
    split ! $ move ! (2 ∷ []) $ split ! $ drop ! $ heard ! Asks (λ asked. move ! (1 ∷ []) $ fsplit ! $
    chain_had T ! d z.0.4.0 (λ ds. move ! (1 ∷ []) $ fsplit ! $ handle_tells al ! a z.0.4.1.0 (λ h hd fits. keep ! (2 ∷ 0 ∷ 3 ∷ []) $
    let alike = d.alike in
    let ks = uncons d.links (omega arith) in let ys = uncons d.items (omega arith) in
    let k : Link = ks.0 in let y : X T = ys.0 in
    let linked : IsChained d.head d.tail (k ∷ ks.1) = subst (IsChained d.head d.tail) ks.2 (IsChained-had d.head d.tail d.links d.chained) in
    let rest : D T = record {
      head = k.1;
      tail = d.tail;
      items = ys.1;
      links = ks.1;
      heap = d.heap;
      alike = omega (arith, d.alike, ap length ys.2, ap length ks.2);
      chained = ∣ IsChained-tail d.head d.tail k ks.1 linked ∣₁;
    } in
    let good2 : (h t : Ptr) → Good (layout (Cr T)) (words h t) = λ h t. as_fields (ty_ptr ∷ ty_ptr ∷ []) (ptr_val h ∷ ptr_val t ∷ []) (Ptr-Good h, (Ptr-Good t, tt)) in
    let dw = words d.head d.tail in let rw' = words k.1 d.tail in
    rewrite ! 0 (λ (ls : List Link). ‵ (Held T (heap_token d.heap) ls d.items)) ks.2 refl $ rewrite ! 0 (λ (zs : List (X T)). ‵ (Held T (heap_token d.heap) (k ∷ ks.1) zs)) ys.2 refl $ fsplit ! $
    in_a_block ! k.0 (λ p. One T (heap_token d.heap) (p, k.1) y) (fst∗ 𝓤 (never 𝓤) (sem 𝓛 (heap_token d.heap (bare (lone (Nd T).mir)) null_ptr))) (λ b o ep. fsplit ! $ node_out T L ! k.1 y b o (λ w good.
    -- [the node's cell; what its element owns; its block; the nodes after; the handle; the token]
    let out : Lo.Denot = record { at = block_ptr b o; alloc = a; value = record { next = k.1; elem = y } } in let lw = pair_val (vptr b o) h in let lgood = pair_Typed ty_ptr (layout G) (vptr b o) h (tt, tt) fits in
    suffices ! (Run (dw ∷ h ∷ [])) (subst (λ (us : List Val). ent 𝓤 (Run (dw ∷ h ∷ [])) (Run us)) (sym (λ i. ds i ++ (hd i ++ []))) (id⊢ 𝓤 (Run (dw ∷ h ∷ [])))) $
    enter ! 𝓣.C 𝓣.Λ fn (dw ∷ h ∷ []) Post $ alloc_all ! (λ l. pass_all ! refl (good2 d.head d.tail, (fits, tt)) $
    let Ev = env fn.locals l in
    sets ! (is ! (of_opd ! (get_in ! (fld ! refl (stop !)) (sub ! 0 refl (whole !)))) (ap ptr_val (linked.0.0 ∙ ep))) refl (tt, tt) $
    sets ! (of_opd ! (get_in ! (fld ! refl (stop !)) (sub ! 1 refl (whole !)))) refl (Ptr-Good d.tail) $
    first ! $ blocks ! $ sets_last ! (of_opd ! (load ! (through ! refl (fld ! refl (stop !))) (look_in ! 0 (sub ! 0 refl (whole !))))) refl (Ptr-Good k.1) $
    exec ! 𝓣.C 𝓣.Λ Ev (after 3 fn.body) (at_ret Ev Post) $
    sets ! (of_opd ! (get ! refl)) refl (Ptr-Good k.1) $
    sets ! (agg ! (and_then ! (get ! refl) (and_then ! (get ! refl) (no_more !)))) refl lgood $
    sets ! (agg ! (and_then ! (get ! refl) (and_then ! (get ! refl) (no_more !)))) refl (good2 k.1 d.tail) $
    sets ! (agg ! (and_then ! (get ! refl) (and_then ! (get ! refl) (no_more !)))) refl (pair_Typed (layout Lo) (layout (Cr T)) lw rw' lgood (good2 k.1 d.tail)) $
    node_in T L ! k.1 y b o w $ fjoin ! $ move ! (0 ∷ 2 ∷ []) $ loose_made (Nd T) G LG ghosts ! b o h a (record { next = k.1; elem = y }) $ move ! (1 ∷ []) $ chain_made T ! rest $ move ! (1 ∷ 0 ∷ []) $
    use2 𝓛 (‵ ((Tuple (Lo ∷ Cr T ∷ [])).own_val (out, rest) (pair_val lw rw' ∷ []))) (pair_of 𝓛 Lo (Cr T) out rest lw rw') $
    -- [the result; the token]
    use0 𝓛 (raw (fact 𝓤 (d.items ≡ y ∷ rest.items))) (fact_i 𝓤 (d.items ≡ y ∷ rest.items) (emp 𝓤) ys.2) $ nothing ! $ nothing ! $ fjoin ! $ nothing ! $ fjoin ! $
    returns ! (look_at ! 0 refl) $ free_all ! refl $ keep ! (3 ∷ 0 ∷ 2 ∷ 1 ∷ []) $ by ! (leaves 𝓛 En hs c z (pair_val lw rw') (out, rest) _ (tt, (tt, tt))))))))))
