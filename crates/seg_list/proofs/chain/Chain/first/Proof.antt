-- `first` shows where the first node lies.
use Rattle.std.proofs.Common.{◌≡◌, ◌+◌, ◌<◌, List, [], ◌∷◌, ◌++◌, length, refl, sym, subst, arith}
use mir.Syntax.{a_type}
use mir.Val.{Val, vptr}
use mir.MapTy.{inst_fn}
use base.Logic.{SProp, ent, emp, id⊢}
use base.Fml.{ftrue, flft}
use prog.Wp.{WpFn}
use types.Kit.{feq_l, group, ‵, raw, ◌⊛◌, ◌$◌, ◌∵◌, !, qed, by, move, keep, split, split3, fsplit, fjoin, suffices, use0}
use types.Run.{load, look, stop, fld, of_opd, no_more, and_then, returns, enter}
use types.ByLocal.{alloc_all, pass_all, free_all, look_at, get, through, sets}
use types.Part.{agg}
use contract.Monad.{fact, fact_i}
use contract.Running.{tables}
use denote.Exit.{yes}
use denote.RattleType.{owns}
use denote.Signature.{types_at, plain}
use denote.Steps.{nothing}
use denote.Builtin.{RefOf}
use Rattle.std_alloc.proofs.RcSteps.{word, word-Good}
use Rattle.seg_list.specs.Links.{place_of}
use Rattle.seg_list.specs.contracts.chain.Place as P
use denote.Param.{layouts}
use denote.Triple.Walked.{Goes-dropped, Stays, stay_dropped, walk_of}
use Rattle.std_alloc.proofs.RcSteps.{Ptr-Good}
use Rattle.std.proofs.raw_atomic.Walks.{proved_at, leaves}
use Rattle.seg_list.proofs.Chained.{IsChained-had, first_is}
use Rattle.seg_list.proofs.ChainSteps.{Cr, D, R, place_made, at_place, chain_seen, pointer_in, pointer_out}
use Rattle.seg_list.specs.contracts.chain.Chain.first.{ended, clauses}
use Rattle.seg_list.specs.contracts.chain.Chain.first.Key.{name as #self}
use Rattle.seg_list.proofs.chain.Chain.first.Statement.{statement}
use Rattle.seg_list.proofs.chain.Chain.first.Code as code

pub first_spec : {M : Type 1} → statement M
first_spec 𝓤 𝓛 𝓜 𝓡 wired T L =
    let H = 𝓛.H in let 𝓣 = tables 𝓤 H 𝓜 𝓡 𝓡.env in let En = ended T in let c = clauses T 𝓛 𝓜.mem 𝓡.returns in
    let args = layouts (a_type ∷ []) (T, tt) in let fn = inst_fn args code.function in
    let P-type = P.the_type (R T) in let Ref = RefOf (0 ∷ []) tt (plain {n = 2} (λ _. Cr T)) (λ _. tt) in
    let hs : Stays En.signature.params En.kept = (stay_dropped Ref yes, tt) in
    proved_at 𝓛 En hs c 𝓜 𝓡 (Goes-dropped 𝓛 2 Ref yes (λ κs x f. refl), tt) (#self args) fn (code.unfolded 𝓤 H 𝓜 𝓡 wired (T, tt)) (λ z are.
    let κs = z.0.0 in let qs = z.0.1 in let d : D T = z.0.3.0.now in let b = z.0.3.0.ref_ptr.0 in let o = z.0.3.0.ref_ptr.1 in
    let Post : Val → SProp 𝓤 = (walk_of 𝓛 En hs c).post z in let Run : List Val → SProp 𝓤 = λ ws. WpFn 𝓤 H 𝓣.C 𝓣.Λ fn ws Post in
    let toks = ‵ (flft κs.0 qs.0) ⊛ ‵ (flft κs.1.0 qs.1.0) ⊛ ‵ ftrue in
    qed 𝓛 ((toks ⊛ ‵ (owns (types_at En.signature.params κs) z.0.3 z.0.4)) ∷ raw ((c κs z.0.3).requires z.1) ∷ []) ∵
    split ! $ move ! (1 ∷ []) $ fsplit ! $ fsplit ! $ feq_l ! (λ e.
    -- [the chain, shared; nothing; the tokens; the requires]
    let alike = d.alike in let Gives : Type 0 = 0 < length d.items → d.head ≡ place_of d.links 0 in
    let gives : Gives = λ some. first_is d.head d.links (omega arith) (IsChained-had d.head d.tail d.links d.chained).0 in
    let rv : Val = vptr b o in
    suffices ! (Run (rv ∷ [])) (subst (λ (us : List Val). ent 𝓤 (Run (rv ∷ [])) (Run us)) (sym (λ i. e i ++ [])) (id⊢ 𝓤 (Run (rv ∷ [])))) $
    keep ! (0 ∷ 2 ∷ []) $ chain_seen T ! d b o $ move ! (3 ∷ []) $ split3 ! $ move ! (3 ∷ 0 ∷ []) $
    enter ! 𝓣.C 𝓣.Λ fn (rv ∷ []) Post $ alloc_all ! (λ l. pass_all ! refl ((tt, tt), tt) $
    pointer_in T ! tt d.head b (o + 0) (λ s.
    sets ! (of_opd ! (load ! (through ! refl (fld ! refl (stop !))) (look ! 0 refl))) refl (Ptr-Good d.head) $
    sets ! (agg ! (and_then ! (get ! refl) (no_more !))) refl (word-Good P-type.name d.head) $
    pointer_out T ! tt d.head b (o + 0) $
    -- [the token; the other token; nothing]
    group ! 3 $ place_made T ! d.head $
    use0 𝓛 (raw (fact 𝓤 Gives)) (fact_i 𝓤 Gives (emp 𝓤) gives) $ nothing ! $ nothing ! $ fjoin ! $
    returns ! (look_at ! 0 refl) $ free_all ! refl $ keep ! (3 ∷ 0 ∷ 2 ∷ 1 ∷ []) $ by ! (leaves 𝓛 En hs c z (word d.head) (at_place T d.head) _ (tt, tt))))))
