use Rattle.std.proofs.Common.{◌≡◌, ◌<◌, length, ap, ◌∙◌, sym, arith}
use Rattle.std.proofs.lemmas.List.{length_push}
use Rattle.crypto_op.specs.Burst.{Burst}
use Rattle.crypto_op.specs.declared.op.Op.{Op}
use Rattle.event_adapter.proofs.Deal.{least_at, least_set, ids_set, each_put, each_none, put_inside}
use Rattle.event_adapter.proofs.dealing.deal_one.Goals as goal

pub put-requires-clause-room : goal.put-requires-clause-room
put-requires-clause-room g c =
    let ps = c.args.pairs.now.items in
    let h : c.in-Some.k < length ps = omega (arith, c.in-Some.ensures.found.0, c.args.pairs.now.ok.0) in
    let l = least_at ps c.in-Some.k c.index_mut-pair.result.now h c.index_mut-pair.ensures.value in
    omega (arith, l, c.requires.room)

pub returns-in-Some-clause-pairs : goal.returns-in-Some-clause-pairs
returns-in-Some-clause-pairs g c =
    let ps = c.args.pairs.now.items in
    let k = c.in-Some.k in
    let p = c.index_mut-pair.result.now in
    let h : k < length ps = omega (arith, c.in-Some.ensures.found.0, c.args.pairs.now.ok.0) in
    let at = c.index_mut-pair.ensures.value in
    let mine : c.args.e.qp ≡ p.id = sym (ap (λ y. y.id) at ∙ c.in-Some.ensures.found.1 p) in
    each_put ps k p c.put.new.self c.args.e h at c.requires.distinct mine c.put.ensures.id c.put.ensures.dev c.put.ensures.waiting

pub returns-in-Some-clause-ids : goal.returns-in-Some-clause-ids
returns-in-Some-clause-ids g c = ids_set c.args.pairs.now.items c.in-Some.k c.index_mut-pair.result.now c.put.new.self c.index_mut-pair.ensures.value c.put.ensures.id

pub returns-in-Some-clause-room : goal.returns-in-Some-clause-room
returns-in-Some-clause-room g c =
    let ps = c.args.pairs.now.items in
    let p = c.index_mut-pair.result.now in
    let h : c.in-Some.k < length ps = omega (arith, c.in-Some.ensures.found.0, c.args.pairs.now.ok.0) in
    least_set ps c.in-Some.k p c.put.new.self h c.index_mut-pair.ensures.value
    (ap (λ (b : Burst (Op _)). length b.ops) c.put.ensures.waiting ∙ length_push p.waiting.ops c.args.e.op)

pub returns-in-Some-clause-bag : goal.returns-in-Some-clause-bag
returns-in-Some-clause-bag g c =
    let ps = c.args.pairs.now.items in
    let k = c.in-Some.k in
    let p = c.index_mut-pair.result.now in
    let h : k < length ps = omega (arith, c.in-Some.ensures.found.0, c.args.pairs.now.ok.0) in
    let at = c.index_mut-pair.ensures.value in
    let mine : c.args.e.qp ≡ p.id = sym (ap (λ y. y.id) at ∙ c.in-Some.ensures.found.1 p) in
    put_inside g.D.Driver ps k p c.put.new.self c.args.e c.args.out.now.ops h at mine c.put.ensures.id c.put.ensures.dev c.put.ensures.waiting

pub returns-in-None-clause-pairs : goal.returns-in-None-clause-pairs
returns-in-None-clause-pairs g c = each_none c.args.pairs.now.items c.args.e (sym c.in-None.ensures.known)
