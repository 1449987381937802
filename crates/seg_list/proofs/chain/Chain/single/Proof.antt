-- `single` makes a chain of one node.
use Rattle.std.proofs.Common.{◌≡◌, List, [], ◌∷◌, ◌++◌, refl, sym, subst}
use mir.Syntax.{a_type, ty_ptr}
use mir.Val.{Val, vptr}
use mir.MapTy.{inst_fn}
use base.Logic.{SProp, ent, emp, id⊢}
use base.Fml.{ftrue, flft}
use prog.Wp.{WpFn}
use types.Kit.{‵, raw, ◌⊛◌, ◌$◌, ◌∵◌, !, qed, by, move, keep, split, fsplit, fjoin, suffices, use0}
use types.Run.{stop, fld, of_opd, no_more, and_then, returns, enter}
use types.ByLocal.{alloc_all, pass_all, free_all, look_at, get, get_in, sets}
use types.Part.{agg, sub, whole}
use contract.Monad.{fact, fact_i}
use contract.Running.{tables}
use denote.Exit.{no}
use denote.RattleType.{owns}
use denote.Signature.{types_at, plain}
use denote.RawPtr.{Ptr, block_ptr}
use denote.Steps.{nothing}
use denote.Param.{layout, layouts}
use denote.Triple.Walked.{Stays, stay_dropped, walk_of}
use Rattle.core.proofs.alloc.Calls.{Goes-blank}
use Rattle.std.proofs.raw_atomic.Walks.{proved_at, leaves}
use Rattle.std.specs.contracts.alloc.Global as heap
use Rattle.std.proofs.alloc.Global.TheLaws as heap_laws
use Rattle.std.specs.contracts.impls.GlobalAllocator.TheImpl.{ghosts}
use Rattle.std_alloc.proofs.Pairs.{pair_Typed, pair_val}
use Rattle.seg_list.proofs.LooseSteps.{Loose, loose_had}
use Rattle.seg_list.specs.Links.{Link}
use Rattle.seg_list.proofs.ChainSteps.{words, D, Nd, chain_made}
use Rattle.seg_list.specs.contracts.chain.Chain.single.{ended, clauses}
use Rattle.seg_list.specs.contracts.chain.Chain.single.Key.{name as #self}
use Rattle.seg_list.proofs.chain.Chain.single.Statement.{statement}
use Rattle.seg_list.proofs.chain.Chain.single.Code as code

pub single_spec : {M : Type 1} → statement M
single_spec 𝓤 𝓛 𝓜 𝓡 wired T L =
    let H = 𝓛.H in let 𝓣 = tables 𝓤 H 𝓜 𝓡 𝓡.env in let En = ended T in let c = clauses T 𝓛 𝓜.mem 𝓡.returns in
    let args = layouts (a_type ∷ []) (T, tt) in let fn = inst_fn args code.function in
    let LG = heap_laws.the_row_laws in let Lo = Loose (Nd T) heap.the_row LG ghosts in
    let hs : Stays En.signature.params En.kept = (stay_dropped (plain (λ _. Lo)) no, tt) in
    proved_at 𝓛 En hs c 𝓜 𝓡 (Goes-blank 𝓛 1 (plain (λ _. Lo)) no (λ κs x f. tt), tt) (#self args) fn (code.unfolded 𝓤 H 𝓜 𝓡 wired (T, tt)) (λ z are.
    let κs = z.0.0 in let qs = z.0.1 in let d = z.0.3.0 in
    let Post : Val → SProp 𝓤 = (walk_of 𝓛 En hs c).post z in let Run : List Val → SProp 𝓤 = λ ws. WpFn 𝓤 H 𝓣.C 𝓣.Λ fn ws Post in
    let toks = ‵ (flft κs.0 qs.0) ⊛ ‵ ftrue in
    qed 𝓛 ((toks ⊛ ‵ (owns (types_at En.signature.params κs) z.0.3 z.0.4)) ∷ raw ((c κs z.0.3).requires z.1) ∷ []) ∵
    split ! $ move ! (1 ∷ []) $ fsplit ! $ loose_had (Nd T) heap.the_row LG ghosts ! d z.0.4.0 (λ b o h ws fits.
    -- [the node; the handle; nothing; the token; the requires]
    let p : Ptr = block_ptr b o in let w : Val = pair_val (vptr b o) h in
    let l : Link = (p, d.value.next) in
    let new : D T = record { head = p; tail = p; items = d.value.elem ∷ []; links = l ∷ []; heap = d.alloc; alike = refl; chained = ∣ ((refl, tt), refl) ∣₁ } in
    let typed = pair_Typed ty_ptr (layout heap.the_row) (vptr b o) h (tt, tt) fits in
    suffices ! (Run (w ∷ [])) (subst (λ (us : List Val). ent 𝓤 (Run (w ∷ [])) (Run us)) (sym (λ i. ws i ++ [])) (id⊢ 𝓤 (Run (w ∷ [])))) $
    enter ! 𝓣.C 𝓣.Λ fn (w ∷ []) Post $ alloc_all ! (λ l. pass_all ! refl (typed, tt) $
    sets ! (of_opd ! (get_in ! (fld ! refl (stop !)) (sub ! 0 refl (whole !)))) refl (tt, tt) $
    sets ! (agg ! (and_then ! (get ! refl) (and_then ! (get ! refl) (no_more !)))) refl (tt, (tt, (tt, tt))) $
    nothing ! $ move ! (1 ∷ 0 ∷ []) $ fjoin ! $ chain_made T ! new $
    use0 𝓛 (raw (fact 𝓤 (new.items ≡ d.value.elem ∷ []))) (fact_i 𝓤 (new.items ≡ d.value.elem ∷ []) (emp 𝓤) refl) $ nothing ! $ nothing ! $ fjoin ! $
    returns ! (look_at ! 0 refl) $ free_all ! refl $ keep ! (5 ∷ 0 ∷ 2 ∷ 1 ∷ []) $ by ! (leaves 𝓛 En hs c z (words p p) new _ (tt, tt)))))
