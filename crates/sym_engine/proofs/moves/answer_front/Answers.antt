use Rattle.std.proofs.Common.{rules, arith, ◌≡◌, ◌∙◌, ◌+◌, ◌<◌, ◌∷◌, ap, sym, refl, subst, slice_index_or, length, drop}
use Rattle.std.proofs.lemmas.Grind.{common_steps}
use Rattle.std.proofs.lemmas.List.{drop_more, drop-set-lt, map-append, take_more_set}
use Rattle.std.proofs.lemmas.List.Elements.{All-drop, All-push}
use Rattle.crypto_op.proofs.Steps.{front_next, rest_next}
use Rattle.crypto_op.specs.Op.{IsFresh, IsDone}
use Rattle.sym_engine.proofs.moves.answer_front.Goals as goal

pub process-requires : goal.process-requires
process-requires g c =
    let q = c.loop-i.queue.items in
    let op = c.index_mut-op.result.now in
    let within : c.loop-i.i < length q = grind (arith, common_steps) in
    let first = c.args.queue.now.items in
    let here : drop c.loop-i.i first ≡ op ∷ drop (c.loop-i.i + 1) q =
    sym c.loop-i.invariant.rest ∙ drop_more q c.loop-i.i op within ∙ ap (λ x. x ∷ drop (c.loop-i.i + 1) q) (sym c.index_mut-op.ensures.value) in
    subst (λ l. 0 < length l → IsFresh (slice_index_or l 0 op)) here (All-drop IsFresh c.loop-i.i first c.requires.fresh 0 op) (omega arith)

pub loop-i-preserved : goal.loop-i-preserved
loop-i-preserved g c =
    let q = c.loop-i.queue.items in
    let first = c.args.queue.now.items in
    let op = c.index_mut-op.result.now in
    let within : c.loop-i.i < length q = grind (arith, common_steps) in
    let here : drop c.loop-i.i first ≡ op ∷ drop (c.loop-i.i + 1) q =
    sym c.loop-i.invariant.rest ∙ drop_more q c.loop-i.i op within ∙ ap (λ x. x ∷ drop (c.loop-i.i + 1) q) (sym c.index_mut-op.ensures.value) in
    let front = front_next first c.loop-i.i op (drop (c.loop-i.i + 1) q) here in
    let set = take_more_set q c.loop-i.i c.process.new.op within in
    record {
      entries = rw (set, front) (simp map-append (rw (c.loop-i.invariant.entries, c.process.ensures.entry) refl));
      done = rw set (All-push (IsDone c.args.table.now) _ _ c.loop-i.invariant.done c.process.ensures.done);
      rest = drop-set-lt (c.loop-i.i + 1) q c.loop-i.i c.process.new.op (omega arith) ∙ sym (rest_next first c.loop-i.i op (drop (c.loop-i.i + 1) q) here);
      len = search rules;
      capacity = search rules;
    }
