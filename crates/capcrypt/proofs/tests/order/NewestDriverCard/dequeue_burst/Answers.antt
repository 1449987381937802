use Rattle.std.proofs.Common.{◌≡◌, ◌∷◌, [], ◌++◌, List, drop, map, length, ap, ◌∙◌, sym, subst}
use Rattle.std.specs.List.Sorted.{IsPermutation}
use Rattle.std.proofs.Math.Seq.{drop-append_seam}
use Rattle.std.proofs.lemmas.List.{map-append}
use Rattle.std.proofs.lemmas.List.Sorted.{IsPermutation-append_comm}
use Rattle.crypto_op.specs.declared.spec.Card.{Card}
use Rattle.crypto_op.specs.declared.op.Op.{Op}
use Rattle.crypto_op.specs.Burst.{Burst}
use Rattle.crypto_op.specs.Op.{Entry, entry_of}
use Rattle.capcrypt.proofs.tests.order.NewestDriverCard.dequeue_burst.Goals as goal

pub returns-clause-held : goal.returns-clause-held
returns-clause-held c =
    let before = c.args.out.now.ops in
    let rest = c.pop_back.new.self.items in
    let op = c.process.new.op in
    let back : drop (length before) c.push.new.self.ops ≡ op ∷ [] =
    ap (λ (b : Burst (Op Card)). drop (length before) b.ops) c.push.ensures ∙ drop-append_seam before (op ∷ []) in
    let all : map entry_of c.args.self.now.inside.items ≡ map entry_of rest ++ entry_of op ∷ [] =
    ap (map entry_of) c.in-Some.ensures.items ∙ map-append entry_of rest (c.in-Some.newest ∷ []) ∙ ap (λ (e : Entry Card). map entry_of rest ++ e ∷ []) (sym c.process.ensures.entry) in
    subst (λ (l : List (Op Card)). IsPermutation (map entry_of l ++ map entry_of rest) (map entry_of c.args.self.now.inside.items)) (sym back)
    (subst (IsPermutation (entry_of op ∷ map entry_of rest)) (sym all) (IsPermutation-append_comm (entry_of op ∷ []) (map entry_of rest)))
