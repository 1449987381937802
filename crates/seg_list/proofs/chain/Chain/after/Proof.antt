-- `after` shows where the next node lies.
use Rattle.std.proofs.Common.{◌≡◌, ℕ, ◌+◌, ◌<◌, List, [], ◌∷◌, ◌++◌, length, refl, sym, ap, ◌∙◌, subst, arith}
use mir.Syntax.{a_type, w64}
use mir.Val.{Val, vptr, vint}
use mir.MapTy.{inst_fn}
use base.Logic.{SProp, ent, emp, never, id⊢, fst∗}
use base.Fml.{ftrue, flft}
use prog.Wp.{WpFn}
use types.Logic.{sem}
use types.Kit.{flt_l, feq_l, group, ‵, raw, ◌⊛◌, at_ret, ◌$◌, ◌∵◌, !, qed, by, move, keep, drop, split, split3, fsplit, fjoin, suffices, use0, use1}
use types.Run.{load, look, stop, fld, of_opd, no_more, and_then, first, blocks, exec, returns, enter}
use types.ByLocal.{sets_last, alloc_all, pass_all, free_all, look_at, get, get_in, through, sets, is, env}
use types.Part.{agg, sub, whole}
use contract.Monad.{fact, fact_i}
use contract.BorrowLft.{◌⊑◌}
use contract.Running.{tables}
use denote.Exit.{yes, no}
use denote.RattleType.{owns}
use denote.Signature.{types_at, plain}
use denote.Memory.{shared_of}
use denote.RawPtr.{Ptr, ptr_val, in_a_block}
use denote.Steps.{nothing, heard}
use denote.Opens.{hide}
use denote.Builtin.{RefOf, usize}
use denote.Struct.Lending.{lent_at}
use Rattle.seg_list.specs.Ownership.{node_lent}
use Rattle.std_alloc.proofs.RcSteps.{word, word-Good}
use Rattle.seg_list.specs.Links.{link_at, place_of}
use Rattle.seg_list.specs.contracts.chain.Place as P
use Rattle.seg_list.specs.declared.node.Node.{Node}
use Rattle.std.proofs.Common.{get_or, suc}
use denote.Param.{layouts}
use denote.Triple.Walked.{Goes-dropped, Stays, stay_dropped, walk_of}
use Rattle.core.proofs.alloc.Shapes.{after}
use Rattle.std_alloc.proofs.RcSteps.{Ptr-Good}
use Rattle.std.proofs.raw_atomic.Walks.{proved_at, leaves}
use Rattle.seg_list.specs.Links.{Link}
use Rattle.seg_list.proofs.Chained.{IsChained-had, next_is, uncons}
use Rattle.seg_list.proofs.ChainSteps.{Cr, D, X, Nd, R, place_had, place_made, at_place, link_seen, chain_seen, pointer_in, pointer_out, node_seen}
use Rattle.seg_list.specs.contracts.chain.Chain.after.{ended, clauses}
use Rattle.seg_list.specs.contracts.chain.Chain.after.Key.{name as #self}
use Rattle.seg_list.proofs.chain.Chain.after.Statement.{statement}
use Rattle.seg_list.proofs.chain.Chain.after.Code as code

pub after_spec : {M : Type 1} → statement M
after_spec 𝓤 𝓛 𝓜 𝓡 wired T L =
    let H = 𝓛.H in let 𝓣 = tables 𝓤 H 𝓜 𝓡 𝓡.env in let En = ended T in let c = clauses T 𝓛 𝓜.mem 𝓡.returns in
    let args = layouts (a_type ∷ []) (T, tt) in let fn = inst_fn args code.function in
    let Ref = RefOf (0 ∷ []) tt (plain {n = 2} (λ _. Cr T)) (λ _. tt) in
    let hs : Stays En.signature.params En.kept = (stay_dropped Ref yes, (stay_dropped (plain (λ _. P.the_row (R T))) no, (stay_dropped (plain (λ _. usize)) yes, tt))) in
    proved_at 𝓛 En hs c 𝓜 𝓡 (Goes-dropped 𝓛 2 Ref yes (λ κs x f. refl), (Goes-dropped 𝓛 2 (plain (λ _. P.the_row (R T))) no (λ κs x f. refl), (Goes-dropped 𝓛 2 (plain (λ _. usize)) yes (λ κs x f. refl), tt))) (#self args) fn (code.unfolded 𝓤 H 𝓜 𝓡 wired (T, tt)) (λ z are.
    let κs = z.0.0 in let qs = z.0.1 in let κ = κs.0 in let d : D T = z.0.3.0.now in let b = z.0.3.0.ref_ptr.0 in let o = z.0.3.0.ref_ptr.1 in let at : Ptr = z.0.3.1.0.ptr in let i : ℕ = z.0.3.1.1.0 in
    let Post : Val → SProp 𝓤 = (walk_of 𝓛 En hs c).post z in let Run : List Val → SProp 𝓤 = λ ws. WpFn 𝓤 H 𝓣.C 𝓣.Λ fn ws Post in
    let toks = ‵ (flft κs.0 qs.0) ⊛ ‵ (flft κs.1.0 qs.1.0) ⊛ ‵ ftrue in
    let Asks : Type 0 = (i < length d.items) × (at ≡ place_of d.links i) in
    qed 𝓛 ((toks ⊛ ‵ (owns (types_at En.signature.params κs) z.0.3 z.0.4)) ∷ (raw (fact 𝓤 (κs.1.0 ⊑ T.lives)) ⊛ raw (fact 𝓤 Asks)) ∷ []) ∵
    split ! $ move ! (2 ∷ []) $ split ! $ drop ! $ heard ! Asks (λ asked. move ! (1 ∷ []) $ fsplit ! $ fsplit ! $ feq_l ! (λ e0. move ! (1 ∷ []) $ fsplit ! $ place_had T ! at z.0.4.1.0 (λ e1. fsplit ! $ fsplit ! $ feq_l ! (λ e2. flt_l ! (λ fi.
    -- [the bound; nothing; the chain, shared; the tokens]
    let rv : Val = vptr b o in let wv = word at in let iv = vint w64 i in
    let alike = d.alike in
    let in1 : i < length d.links = omega (arith, asked.0, d.alike) in let in2 : i < length d.items = omega (arith, asked.0) in let any : 0 < length d.items = omega (arith, asked.0) in
    let n : Link = link_at d.links i in let y : X T = (uncons d.items any).0 in let x : X T = get_or d.items i y in
    let v : Node (X T) = record { next = n.1; elem = x } in
    let linked = IsChained-had d.head d.tail d.links d.chained in
    let Next-fact : Type 0 = i + 1 < length d.items → n.1 ≡ place_of d.links (i + 1) in
    let one : suc i ≡ i + 1 = omega arith in
    let next : Next-fact = λ more. next_is d.head d.links i (omega (arith, more, d.alike)) linked.0 ∙ ap (place_of d.links) one in
    suffices ! (Run (rv ∷ wv ∷ iv ∷ [])) (subst (λ (us : List Val). ent 𝓤 (Run (rv ∷ wv ∷ iv ∷ [])) (Run us)) (sym (λ j. e0 j ++ (e1 j ++ (e2 j ++ [])))) (id⊢ 𝓤 (Run (rv ∷ wv ∷ iv ∷ [])))) $
    keep ! (1 ∷ 2 ∷ []) $ chain_seen T ! d b o $ keep ! (2 ∷ 3 ∷ []) $
    use1 𝓛 (‵ (node_lent (R T) n x κ)) (node_seen T 𝓛 κ d.links d.items i y in1 in2) $
    in_a_block ! n.0 (λ p. lent_at (Nd T) p v κ) (fst∗ 𝓤 (never 𝓤) (sem 𝓛 (shared_of (Nd T) v 0 0 κ))) (λ nb no e. fsplit ! $ drop ! $ hide ! $
    link_seen T ! v nb no $ move ! (1 ∷ []) $ split3 ! $ move ! (3 ∷ 0 ∷ []) $
    enter ! 𝓣.C 𝓣.Λ fn (rv ∷ wv ∷ iv ∷ []) Post $ alloc_all ! (λ l. pass_all ! refl ((tt, tt), (word-Good (P.the_type (R T)).name at, ((tt, record { fits = fi }), tt))) $
    let Ev = env fn.locals l in
    pointer_in T ! tt n.1 nb (no + 0) (λ s.
    sets ! (is ! (of_opd ! (get_in ! (fld ! refl (stop !)) (sub ! 0 refl (whole !)))) (ap ptr_val (asked.1 ∙ e))) refl (tt, tt) $
    first ! $ blocks ! $ sets_last ! (of_opd ! (load ! (through ! refl (fld ! refl (stop !))) (look ! 0 refl))) refl (Ptr-Good n.1) $ exec ! 𝓣.C 𝓣.Λ Ev (after 2 fn.body) (at_ret Ev Post) $
    sets ! (of_opd ! (get ! refl)) refl (Ptr-Good n.1) $
    sets ! (agg ! (and_then ! (get ! refl) (no_more !))) refl (word-Good (P.the_type (R T)).name n.1) $
    pointer_out T ! tt n.1 nb (no + 0) $ group ! 3 $ place_made T ! n.1 $
    -- [the result; the tokens]
    use0 𝓛 (raw (fact 𝓤 Next-fact)) (fact_i 𝓤 Next-fact (emp 𝓤) next) $
    nothing ! $ nothing ! $ fjoin ! $ nothing ! $ fjoin ! $ nothing ! $ fjoin ! $
    returns ! (look_at ! 0 refl) $ free_all ! refl $ keep ! (3 ∷ 0 ∷ 2 ∷ 1 ∷ []) $ by ! (leaves 𝓛 En hs c z (word n.1) (at_place T n.1) _ (tt, (tt, (tt, tt)))))))))))))
