use Rattle.std.proofs.Common.{arith, refl, ◌/◌, ◌++◌, map}
use Rattle.std.proofs.lemmas.List.{length-set}
use Rattle.crypto_op.specs.Op.{entry_of}
use Rattle.sched_multicore.proofs.Carrying.{carried_kept, same_hand, set_hand, sum_set}
use Rattle.sched_multicore.proofs.Passing.{hands_set, looked_only, took_found}
use Rattle.sched_multicore.proofs.Taking.{all_fresh, code_desk, code_hand, taken_in, took_more}
use Rattle.sched_multicore.proofs.carrier.Carrier.take_at.Goals as goal

pub returns-in_default-clause-laden : goal.returns-in_default-clause-laden
returns-in_default-clause-laden c sessions held l =
    let s = c.args.self.now in
    let d = c.index_mut-hand.result.now in
    let e = c.take.new.self in
    let at = code_desk s sessions (map entry_of s.burst.ops ++ held) c.args.code d l c.requires.code c.index_mut-hand.ensures.value in
    let v = looked_only d e _ c.in_default.field-0 c.in_default.ensures.same c.in_default.ensures.err in
    carried_kept s.index s.slots sessions (c.args.code / s.slots) s.hands.items s.saved.items (map entry_of s.burst.ops ++ held) d e l at v.later.slots v.later.worker v.later.about v.taken

pub returns-in_default-clause-passed : goal.returns-in_default-clause-passed
returns-in_default-clause-passed c none x y atx aty =
    let q = c.requires.laden in
    let s = c.args.self.now in
    let h = c.args.code / s.slots in
    let d = c.index_mut-hand.result.now in
    let e = c.take.new.self in
    let within = code_hand s q.0 _ c.args.code q.2 c.requires.code in
    let at = code_desk s q.0 _ c.args.code d q.2 c.requires.code c.index_mut-hand.ensures.value in
    let v = looked_only d e _ c.in_default.field-0 c.in_default.ensures.same c.in_default.ensures.err in
    let is = same_hand s.hands.items h x d atx at in
    let now = same_hand _ h y e aty (set_hand s.hands.items h e within) in
    rw (is, now) v.passed

pub returns-in_default-clause-same : goal.returns-in_default-clause-same
returns-in_default-clause-same c =
    let q = c.requires.laden in
    let s = c.args.self.now in
    let d = c.index_mut-hand.result.now in
    let e = c.take.new.self in
    let at = code_desk s q.0 _ c.args.code d q.2 c.requires.code c.index_mut-hand.ensures.value in
    let v = looked_only d e _ c.in_default.field-0 c.in_default.ensures.same c.in_default.ensures.err in
    record { hands = hands_set s.hands.items _ d e at v.later; codes = refl; cap = refl; slots = refl; index = refl }

pub returns-in_default-clause-sum : goal.returns-in_default-clause-sum
returns-in_default-clause-sum c =
    let q = c.requires.laden in
    let s = c.args.self.now in
    let d = c.index_mut-hand.result.now in
    let e = c.take.new.self in
    let at = code_desk s q.0 _ c.args.code d q.2 c.requires.code c.index_mut-hand.ensures.value in
    let v = looked_only d e _ c.in_default.field-0 c.in_default.ensures.same c.in_default.ensures.err in
    let t = sum_set s.hands.items (c.args.code / s.slots) d e at in
    omega (arith, t, v.finished)

pub returns-clause-laden : goal.returns-clause-laden
returns-clause-laden c sessions held l =
    let s = c.args.self.now in
    let d = c.index_mut-hand.result.now in
    let e = c.take.new.self in
    let at = code_desk s sessions (map entry_of s.burst.ops ++ held) c.args.code d l c.requires.code c.index_mut-hand.ensures.value in
    rw (c.push.ensures, c.set_pos.ensures, c.spec.ensures) (taken_in s sessions held c.args.code d e c.in-Ok.op l at c.in-Ok.ensures.ok)

pub returns-clause-fresh : goal.returns-clause-fresh
returns-clause-fresh c all = rw (c.push.ensures, c.set_pos.ensures) (all_fresh c.args.self.now.burst.ops c.in-Ok.op c.args.code all c.in-Ok.ensures.ok.waiting.1)

pub returns-clause-same : goal.returns-clause-same
returns-clause-same c =
    let q = c.requires.laden in
    let s = c.args.self.now in
    let d = c.index_mut-hand.result.now in
    let e = c.take.new.self in
    let at = code_desk s q.0 _ c.args.code d q.2 c.requires.code c.index_mut-hand.ensures.value in
    record { hands = hands_set s.hands.items _ d e at (took_more d e _ c.in-Ok.op c.in-Ok.ensures.ok).0; codes = length-set s.saved.items c.args.code _; cap = rw c.push.ensures refl; slots = refl; index = refl }

pub returns-clause-sum : goal.returns-clause-sum
returns-clause-sum c =
    let q = c.requires.laden in
    let s = c.args.self.now in
    let d = c.index_mut-hand.result.now in
    let e = c.take.new.self in
    let at = code_desk s q.0 _ c.args.code d q.2 c.requires.code c.index_mut-hand.ensures.value in
    let t = sum_set s.hands.items (c.args.code / s.slots) d e at in
    omega (arith, t, (took_more d e _ c.in-Ok.op c.in-Ok.ensures.ok).2)

pub returns-clause-found : goal.returns-clause-found
returns-clause-found c some x y atx aty =
    let q = c.requires.laden in
    let s = c.args.self.now in
    let h = c.args.code / s.slots in
    let d = c.index_mut-hand.result.now in
    let e = c.take.new.self in
    let within = code_hand s q.0 _ c.args.code q.2 c.requires.code in
    let at = code_desk s q.0 _ c.args.code d q.2 c.requires.code c.index_mut-hand.ensures.value in
    let v = took_found d e _ c.in-Ok.ensures.ok.number c.in-Ok.ensures.ok.after in
    let is = same_hand s.hands.items h x d atx at in
    let now = same_hand _ h y e aty (set_hand s.hands.items h e within) in
    rw (is, now) v
