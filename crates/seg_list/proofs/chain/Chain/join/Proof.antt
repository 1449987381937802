-- `join` makes the last node of one chain point to the first of the other.
use Rattle.std.proofs.Common.{append_assoc, ◌≡◌, ◌<◌, List, [], ◌∷◌, ◌++◌, length, refl, sym, ap, ◌∙◌, subst, arith, length-append}
use mir.Syntax.{a_type, ty_ptr}
use mir.Raw.{raw as bare}
use mir.Val.{Val}
use mir.MapTy.{inst_fn}
use base.Logic.{SProp, ent, emp, never, id⊢, fst∗}
use base.Fml.{ftrue, flft}
use prog.Wp.{WpFn}
use types.Logic.{sem}
use types.Kit.{‵, raw, ◌⊛◌, at_ret, ◌$◌, ◌∵◌, !, qed, by, move, keep, drop, split, fsplit, fjoin, suffices, use0, use1, use2, rewrite}
use types.Run.{stop, fld, of_opd, no_more, and_then, assigns_last, first, blocks, exec, returns, enter}
use types.ByLocal.{alloc_all, pass_all, free_all, look_at, get, get_in, through, sets, is, env}
use types.Part.{agg, sub, whole, store_in}
use contract.Monad.{fact, fact_i}
use contract.BorrowLft.{◌⊑◌}
use contract.Running.{tables}
use denote.Exit.{no}
use denote.RattleType.{owns}
use denote.Signature.{types_at, plain}
use denote.Memory.{lone}
use denote.RawPtr.{Ptr, null_ptr, ptr_val, in_a_block}
use denote.Steps.{nothing, heard}
use denote.Param.{layout, layouts}
use denote.Struct.Struct.{as_fields}
use denote.Triple.Walked.{Stays, stay_dropped, walk_of}
use Rattle.core.proofs.alloc.Calls.{Goes-blank}
use Rattle.core.proofs.alloc.Shapes.{after}
use Rattle.std_alloc.proofs.RcSteps.{Good, Ptr-Good}
use Rattle.std.proofs.raw_atomic.Walks.{proved_at, leaves}
use Rattle.seg_list.specs.Links.{Link, IsChained}
use Rattle.seg_list.proofs.Chained.{IsChained-had, IsChained-join, EndsAt-last, uncons, unsnoc}
use Rattle.seg_list.specs.Ownership.{heap_token}
use Rattle.seg_list.proofs.ChainSteps.{words, Cr, D, X, Nd, Held, One, chain_had, chain_made, chain_cut, chain_glue, node_out, node_in}
use Rattle.seg_list.specs.contracts.chain.Chain.join.{ended, clauses}
use Rattle.seg_list.specs.contracts.chain.Chain.join.Key.{name as #self}
use Rattle.seg_list.proofs.chain.Chain.join.Statement.{statement}
use Rattle.seg_list.proofs.chain.Chain.join.Code as code

pub join_spec : {M : Type 1} → statement M
join_spec 𝓤 𝓛 𝓜 𝓡 wired T L =
    let H = 𝓛.H in let 𝓣 = tables 𝓤 H 𝓜 𝓡 𝓡.env in let En = ended T in let c = clauses T 𝓛 𝓜.mem 𝓡.returns in
    let args = layouts (a_type ∷ []) (T, tt) in let fn = inst_fn args code.function in
    let hs : Stays En.signature.params En.kept = (stay_dropped (plain (λ _. Cr T)) no, (stay_dropped (plain (λ _. Cr T)) no, tt)) in
    let goes = Goes-blank 𝓛 1 (plain (λ _. Cr T)) no (λ κs x f. tt) in
    proved_at 𝓛 En hs c 𝓜 𝓡 (goes, (goes, tt)) (#self args) fn (code.unfolded 𝓤 H 𝓜 𝓡 wired (T, tt)) (λ z are.
    let κs = z.0.0 in let qs = z.0.1 in let d : D T = z.0.3.0 in let e : D T = z.0.3.1.0 in
    let Post : Val → SProp 𝓤 = (walk_of 𝓛 En hs c).post z in let Run : List Val → SProp 𝓤 = λ ws. WpFn 𝓤 H 𝓣.C 𝓣.Λ fn ws Post in
    let toks = ‵ (flft κs.0 qs.0) ⊛ ‵ ftrue in
    let Asks : Type 0 = (0 < length d.items) × (0 < length e.items) in
    qed 𝓛 ((toks ⊛ ‵ (owns (types_at En.signature.params κs) z.0.3 z.0.4)) ∷ (raw (fact 𝓤 (κs.0 ⊑ T.lives)) ⊛ raw (fact 𝓤 Asks)) ∷ []) ∵
    split ! $ move ! (2 ∷ []) $ split ! $ drop ! $ heard ! Asks (λ asked. move ! (1 ∷ []) $ fsplit ! $
    chain_had T ! d z.0.4.0 (λ ds. move ! (1 ∷ []) $ fsplit ! $ chain_had T ! e z.0.4.1.0 (λ es.
    keep ! (2 ∷ 0 ∷ 3 ∷ []) $
    let some = asked.0 in let more = asked.1 in let same = d.alike in let other = e.alike in
    let ns = unsnoc d.links (omega arith) in let xs = unsnoc d.items (omega arith) in let ks = uncons e.links (omega arith) in
    let m : Link = ns.1 in let x : X T = xs.1 in
    let alike : length ns.0 ≡ length xs.0 = omega (arith, d.alike, ap length ns.2, ap length xs.2, length-append ns.0 (m ∷ []), length-append xs.0 (x ∷ [])) in
    let linked : IsChained d.head d.tail (ns.0 ++ m ∷ []) = subst (IsChained d.head d.tail) ns.2 (IsChained-had d.head d.tail d.links d.chained) in
    let tied : IsChained e.head e.tail (ks.0 ∷ ks.1) = subst (IsChained e.head e.tail) ks.2 (IsChained-had e.head e.tail e.links e.chained) in
    let last : d.tail ≡ m.0 = EndsAt-last d.tail ns.0 m linked.1 in
    let was : Link = (m.0, e.head) in
    let links = ns.0 ++ was ∷ e.links in let items = xs.0 ++ x ∷ e.items in
    let chained : IsChained d.head e.tail links = subst (λ ls. IsChained d.head e.tail (ns.0 ++ was ∷ ls)) (sym ks.2) (IsChained-join d.head d.tail e.head e.tail ns.0 m ks.0 ks.1 linked tied) in
    let new : D T = record {
      head = d.head;
      tail = e.tail;
      items = items;
      links = links;
      heap = d.heap;
      alike = omega (arith, alike, e.alike, length-append xs.0 (x ∷ e.items), length-append ns.0 (was ∷ e.links));
      chained = ∣ chained ∣₁;
    } in
    let gives : new.items ≡ d.items ++ e.items = sym (ap (λ ys. ys ++ e.items) xs.2 ∙ append_assoc xs.0 (x ∷ []) e.items) in
    let good2 : (h t : Ptr) → Good (layout (Cr T)) (words h t) = λ h t. as_fields (ty_ptr ∷ ty_ptr ∷ []) (ptr_val h ∷ ptr_val t ∷ []) (Ptr-Good h, (Ptr-Good t, tt)) in
    let dw = words d.head d.tail in let ew = words e.head e.tail in
    rewrite ! 0 (λ (ls : List Link). ‵ (Held T (heap_token d.heap) ls d.items)) ns.2 refl $ rewrite ! 0 (λ (ys : List (X T)). ‵ (Held T (heap_token d.heap) (ns.0 ++ m ∷ []) ys)) xs.2 refl $
    use1 𝓛 (‵ (Held T (heap_token d.heap) ns.0 xs.0) ⊛ ‵ (Held T (heap_token d.heap) (m ∷ []) (x ∷ []))) (chain_cut T 𝓛 (heap_token d.heap) ns.0 (m ∷ []) xs.0 (x ∷ []) alike) $ split ! $ move ! (1 ∷ []) $ fsplit ! $
    in_a_block ! m.0 (λ p. One T (heap_token d.heap) (p, m.1) x) (fst∗ 𝓤 (never 𝓤) (sem 𝓛 (heap_token d.heap (bare (lone (Nd T).mir)) null_ptr))) (λ b o ep. fsplit ! $ node_out T L ! m.1 x b o (λ w good.
    -- [the node's cell; what its element owns; its block; nothing; the nodes before; the other's nodes; the token]
    suffices ! (Run (dw ∷ ew ∷ [])) (subst (λ (us : List Val). ent 𝓤 (Run (dw ∷ ew ∷ [])) (Run us)) (sym (λ i. ds i ++ (es i ++ []))) (id⊢ 𝓤 (Run (dw ∷ ew ∷ [])))) $
    enter ! 𝓣.C 𝓣.Λ fn (dw ∷ ew ∷ []) Post $ alloc_all ! (λ l. pass_all ! refl (good2 d.head d.tail, (good2 e.head e.tail, tt)) $
    let Ev = env fn.locals l in
    sets ! (of_opd ! (get_in ! (fld ! refl (stop !)) (sub ! 0 refl (whole !)))) refl (Ptr-Good d.head) $
    sets ! (is ! (of_opd ! (get_in ! (fld ! refl (stop !)) (sub ! 1 refl (whole !)))) (ap ptr_val (last ∙ ep))) refl (tt, tt) $
    sets ! (of_opd ! (get_in ! (fld ! refl (stop !)) (sub ! 0 refl (whole !)))) refl (Ptr-Good e.head) $
    sets ! (of_opd ! (get_in ! (fld ! refl (stop !)) (sub ! 1 refl (whole !)))) refl (Ptr-Good e.tail) $
    first ! $ blocks ! $
    assigns_last ! (of_opd ! (get ! refl)) (through ! refl (fld ! refl (stop !))) (store_in ! 0 (sub ! 0 refl (whole !)) (Ptr-Good e.head)) $
    exec ! 𝓣.C 𝓣.Λ Ev (after 5 fn.body) (at_ret Ev Post) $
    sets ! (agg ! (and_then ! (get ! refl) (and_then ! (get ! refl) (no_more !)))) refl (good2 d.head e.tail) $
    node_in T L ! e.head x b o w $ fjoin ! $ rewrite ! 0 (λ (p : Ptr). ‵ (One T (heap_token d.heap) (p, e.head) x)) (sym ep) refl $
    move ! (0 ∷ 3 ∷ []) $ fjoin ! $ move ! (2 ∷ 0 ∷ []) $
    use2 𝓛 (‵ (Held T (heap_token d.heap) links items)) (chain_glue T 𝓛 (heap_token d.heap) ns.0 (was ∷ e.links) xs.0 (x ∷ e.items) alike) $ chain_made T ! new $
    -- [the result; nothing; the token]
    use0 𝓛 (raw (fact 𝓤 (new.items ≡ d.items ++ e.items))) (fact_i 𝓤 (new.items ≡ d.items ++ e.items) (emp 𝓤) gives) $ nothing ! $ nothing ! $ fjoin ! $ nothing ! $ fjoin ! $
    returns ! (look_at ! 0 refl) $ free_all ! refl $ keep ! (4 ∷ 0 ∷ 2 ∷ 1 ∷ []) $ by ! (leaves 𝓛 En hs c z (words d.head e.tail) new _ (tt, (tt, tt))))))))))
