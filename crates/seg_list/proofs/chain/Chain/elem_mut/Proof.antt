-- `elem_mut` lends an element.
use Rattle.std.proofs.Common.{◌≡◌, ℕ, ◌+◌, ◌<◌, List, [], ◌∷◌, ◌++◌, length, refl, sym, ap, ◌∙◌, subst, arith}
use mir.Syntax.{a_type, w64}
use mir.Raw.{raw as bare}
use mir.Val.{Val, vptr, vint}
use mir.MapTy.{inst_fn}
use base.Logic.{SProp, ent, emp, never, id⊢, fst∗}
use base.Fraction.{full_share}
use base.Fml.{ftrue, flft}
use prog.Wp.{WpFn}
use types.Logic.{sem}
use types.Kit.{flt_l, fsplit3, later, some, pick, await, feq_l, group, ‵, raw, ◌⊛◌, at_ret, ◌$◌, ◌∵◌, !, qed, by, move, keep, drop, split, split3, join, fsplit, fjoin, suffices, use0, use1, use2, rewrite}
use types.Run.{addr, stop, fld, of_opd, first, blocks, exec, returns, enter}
use types.ByLocal.{sets_last, alloc_all, pass_all, free_all, look_at, get, get_in, through, sets, is, env}
use types.Part.{sub, whole}
use contract.Monad.{fact, fact_i}
use contract.BorrowLft.{◌⊑◌}
use contract.Running.{tables}
use denote.Exit.{yes, no}
use denote.RattleType.{owns}
use denote.Signature.{mut_ref_to, types_at, plain}
use denote.Memory.{cell_at, part_at, lone}
use denote.RawPtr.{Ptr, null_ptr, ptr_val, in_a_block}
use denote.Steps.{nothing, heard, opens}
use denote.Follow.{follows, lends_Part}
use borrow.Table.OneValue.{part_in}
use Rattle.std.proofs.lemmas.List.{get_or_at}
use Rattle.seg_list.specs.ElemLending.{with_elem}
use Rattle.seg_list.proofs.Lent.{split_at, ν, τs, eo, Way, Rest, back}
use mir.Val.{vcons, vnil, Vals}
use mir.Syntax.{named}
use base.Fml.{GName, fat}
use denote.Ref.{MutRef}
use denote.Builtin.{usize}
use Rattle.seg_list.specs.Ownership.{heap_token}
use Rattle.std_alloc.proofs.RcSteps.{word, word-Good}
use Rattle.seg_list.specs.Links.{place_of}
use Rattle.seg_list.specs.contracts.chain.Place as P
use Rattle.std.proofs.Common.{get_or}
use denote.Param.{layout, layouts}
use denote.Triple.Walked.{Goes-spent_ref, Goes-dropped, Stays, stay_dropped, walk_of}
use Rattle.core.proofs.alloc.Shapes.{after}
use Rattle.std.proofs.raw_atomic.Walks.{proved_at, leaves}
use Rattle.seg_list.specs.Links.{Link}
use Rattle.seg_list.proofs.ChainSteps.{Cr, D, X, Nd, Held, One, chain_had, chain_cut, R, place_had, node_out}
use Rattle.seg_list.specs.contracts.chain.Chain.elem_mut.{ended, clauses}
use Rattle.seg_list.specs.contracts.chain.Chain.elem_mut.Key.{name as #self}
use Rattle.seg_list.proofs.chain.Chain.elem_mut.Statement.{statement}
use Rattle.seg_list.proofs.chain.Chain.elem_mut.Code as code

pub elem_mut_spec : {M : Type 1} → statement M
elem_mut_spec 𝓤 𝓛 𝓜 𝓡 wired T L =
    let H = 𝓛.H in let 𝓣 = tables 𝓤 H 𝓜 𝓡 𝓡.env in let En = ended T in let c = clauses T 𝓛 𝓜.mem 𝓡.returns in
    let args = layouts (a_type ∷ []) (T, tt) in let fn = inst_fn args code.function in
    let hs : Stays En.signature.params En.kept = (stay_dropped (mut_ref_to (0 ∷ []) tt (plain {n = 2} (λ _. Cr T))) no, (stay_dropped (plain (λ _. P.the_row (R T))) no, (stay_dropped (plain (λ _. usize)) yes, tt))) in
    proved_at 𝓛 En hs c 𝓜 𝓡 (Goes-spent_ref 𝓛 2 (0 ∷ []) tt (plain (λ _. Cr T)), (Goes-dropped 𝓛 2 (plain (λ _. P.the_row (R T))) no (λ κs x f. refl), (Goes-dropped 𝓛 2 (plain (λ _. usize)) yes (λ κs x f. refl), tt))) (#self args) fn (code.unfolded 𝓤 H 𝓜 𝓡 wired (T, tt)) (λ z are.
    let κs = z.0.0 in let qs = z.0.1 in let κ = κs.0 in let d : D T = z.0.3.0.now in let rb = z.0.3.0.ref_ptr.0 in let ro = z.0.3.0.ref_ptr.1 in let γ = z.0.3.0.ghost_name in let at : Ptr = z.0.3.1.0.ptr in let i : ℕ = z.0.3.1.1.0 in
    let Post : Val → SProp 𝓤 = (walk_of 𝓛 En hs c).post z in let Run : List Val → SProp 𝓤 = λ ws. WpFn 𝓤 H 𝓣.C 𝓣.Λ fn ws Post in
    let toks = ‵ (flft κs.0 qs.0) ⊛ ‵ (flft κs.1.0 qs.1.0) ⊛ ‵ ftrue in
    let Asks : Type 0 = (i < length d.items) × (at ≡ place_of d.links i) in
    qed 𝓛 ((toks ⊛ ‵ (owns (types_at En.signature.params κs) z.0.3 z.0.4)) ∷ (raw (fact 𝓤 (κs.1.0 ⊑ T.lives)) ⊛ raw (fact 𝓤 Asks)) ∷ []) ∵
    split ! $ move ! (2 ∷ []) $ split ! $ drop ! $ heard ! Asks (λ asked. move ! (1 ∷ []) $ fsplit ! $ fsplit3 ! $ feq_l ! (λ e0. move ! (2 ∷ []) $ fsplit ! $ place_had T ! at z.0.4.1.0 (λ e1. fsplit ! $ fsplit ! $ feq_l ! (λ e2. flt_l ! (λ fi.
    keep ! (1 ∷ 2 ∷ 3 ∷ []) $ move ! (2 ∷ []) $ split3 ! $ move ! (3 ∷ 4 ∷ 0 ∷ []) $
    -- [what the borrow is seen at; the borrow; its token; the other token; nothing]
    let rv : Val = vptr rb ro in let wv = word at in let iv = vint w64 i in
    let alike = d.alike in
    let in1 : i < length d.links = omega (arith, asked.0, d.alike) in let in2 : i < length d.items = omega (arith, asked.0) in
    let ls = split_at d.links i in1 in let xs = split_at d.items i in2 in
    let la = ls.0 in let m : Link = ls.1 in let lb = ls.2 in let xa = xs.0 in let x : X T = xs.1 in let xb = xs.2 in
    let alike : length la ≡ length xa = ls.4 ∙ sym xs.4 in
    let here : at ≡ m.0 = asked.1 ∙ ap (λ (ks : List Link). place_of ks i) ls.3 ∙ ap (λ (k : Link). k.0) (get_or_at la m lb (null_ptr, null_ptr) i ls.4) in
    let value : x ≡ get_or d.items i x = sym (ap (λ ys. get_or ys i x) xs.3 ∙ get_or_at xa x xb x i xs.4) in
    let code = (Cr T).coded.code d in
    suffices ! (Run (rv ∷ wv ∷ iv ∷ [])) (subst (λ (us : List Val). ent 𝓤 (Run (rv ∷ wv ∷ iv ∷ [])) (Run us)) (sym (λ j. e0 j ++ (e1 j ++ (e2 j ++ [])))) (id⊢ 𝓤 (Run (rv ∷ wv ∷ iv ∷ [])))) $
    enter ! 𝓣.C 𝓣.Λ fn (rv ∷ wv ∷ iv ∷ []) Post $ alloc_all ! (λ l. pass_all ! refl ((tt, tt), (word-Good (P.the_type (R T)).name at, ((tt, record { fits = fi }), tt))) $
    let Ev = env fn.locals l in
    opens ! tt (Cr T) {h = d} rb ro (λ us. move ! (1 ∷ []) $ chain_had T ! d us (λ isw. rewrite ! 1 (λ (ws : List Val). ‵ (cell_at full_share (Cr T).mir ws rb ro)) isw refl $
    rewrite ! 0 (λ (ks : List Link). ‵ (Held T (heap_token d.heap) ks d.items)) ls.3 refl $ rewrite ! 0 (λ (ys : List (X T)). ‵ (Held T (heap_token d.heap) (la ++ m ∷ lb) ys)) xs.3 refl $
    use1 𝓛 (‵ (Held T (heap_token d.heap) la xa) ⊛ ‵ (Held T (heap_token d.heap) (m ∷ lb) (x ∷ xb))) (chain_cut T 𝓛 (heap_token d.heap) la (m ∷ lb) xa (x ∷ xb) alike) $ split ! $ move ! (1 ∷ []) $ fsplit ! $
    in_a_block ! m.0 (λ p. One T (heap_token d.heap) (p, m.1) x) (fst∗ 𝓤 (never 𝓤) (sem 𝓛 (heap_token d.heap (bare (lone (Nd T).mir)) null_ptr))) (λ b o e. fsplit ! $ node_out T L ! m.1 x b o (λ w good.
    let vs : Vals = vcons (ptr_val m.1) (vcons w vnil) in
    use1 𝓛 (‵ (fat full_share (layout T) b (o + eo T) w) ⊛ raw (Way T L 𝓛 d i rb ro b o la lb m xa xb x w)) (𝓛.laws.at_field full_share (ν T) (τs T) 1 (layout T) (eo T) refl b o vs) $ split ! $ move ! (0 ∷ 2 ∷ []) $
    use2 𝓛 (‵ (part_at (R T) full_share x b (o + eo T))) (part_in 𝓛 (R T) refl full_share x b (o + eo T) w) $
    -- [the element; the way back; the block; the nodes after; those before; the words; the open borrow; obs; auth; the other token; nothing]
    sets ! (is ! (of_opd ! (get_in ! (fld ! refl (stop !)) (sub ! 0 refl (whole !)))) (ap ptr_val (here ∙ e))) refl (tt, tt) $
    first ! $ blocks ! $ sets_last ! (addr ! (through ! refl (fld ! refl (stop !)))) refl (tt, tt) $ exec ! 𝓣.C 𝓣.Λ Ev (after 2 fn.body) (at_ret Ev Post) $
    sets ! (of_opd ! (get ! refl)) refl (tt, tt) $
    move ! (6 ∷ 7 ∷ 8 ∷ 0 ∷ 1 ∷ 2 ∷ 3 ∷ 4 ∷ 5 ∷ []) $ move ! (4 ∷ 5 ∷ 6 ∷ 7 ∷ 8 ∷ []) $ group ! 5 $ move ! (1 ∷ 2 ∷ 3 ∷ 4 ∷ 0 ∷ []) $ group ! 5 $
    use1 𝓛 (later (some (λ (δ : GName). (‵ ((MutRef (named 0) κ (R T)).own_val (record { ref_ptr = (b, o + eo T); ghost_name = δ; now = x }) (vptr b (o + eo T) ∷ [])) ⊛ ‵ (flft κ qs.0) ⊛ ‵ (follows (Cr T) (R T) γ δ (with_elem d i))))))
    (lends_Part 𝓛 (Cr T) (R T) (with_elem d i) (named 0) κ qs.0 rb ro b (o + eo T) γ (Rest T L 𝓛 d i rb ro b o la lb m xa xb x w) (back T L 𝓛 d i rb ro b o la lb m xa xb x w ls.3 xs.3 ls.4 xs.4 e) code code x) $ await ! tt $ pick ! (λ δ.
    split3 ! $
    -- [the part; the token; the clause; the other token; nothing]
    move ! (1 ∷ 3 ∷ 4 ∷ []) $ group ! 3 $ use0 𝓛 (raw (fact 𝓤 (x ≡ get_or d.items i x))) (fact_i 𝓤 (x ≡ get_or d.items i x) (emp 𝓤) value) $ move ! (3 ∷ 0 ∷ []) $ join ! $
    nothing ! $ nothing ! $ fjoin ! $ nothing ! $ fjoin ! $ nothing ! $ fjoin ! $
    returns ! (look_at ! 0 refl) $ free_all ! refl $ keep ! (2 ∷ 0 ∷ 3 ∷ 1 ∷ []) $ by ! (leaves 𝓛 En hs c z (vptr b (o + eo T)) (record { ref_ptr = (b, o + eo T); ghost_name = δ; now = x }) _ (tt, (tt, (tt, tt))))))))))))))))
