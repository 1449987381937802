use Rattle.std.proofs.Common.{arith, refl, ◌%◌}
use Rattle.crypto_op.specs.Op.{entry_of}
use Rattle.sched_multicore.proofs.Carrying.{sum_set}
use Rattle.sched_multicore.proofs.Handing.{code_within, hand_within, handed_on, is_at, waits}
use Rattle.sched_multicore.proofs.Passing.{hands_set, unlisted_later}
use Rattle.sched_multicore.proofs.carrier.Carrier.give_back.Goals as goal

pub index-requires : goal.index-requires
index-requires c =
    let q = c.requires.fresh in
    let s = c.args.self.now in
    rw c.spec.ensures (omega (arith, code_within s q.0 (entry_of c.args.op) q.1 q.2, s.saved.ok.0))

pub index_mut-hand-requires : goal.index_mut-hand-requires
index_mut-hand-requires c =
    let q = c.requires.fresh in
    let s = c.args.self.now in
    rw c.spec.ensures (omega (arith, hand_within s q.0 (entry_of c.args.op) q.1 q.2, s.hands.ok.0))

pub give_back-requires-clause-slot : goal.give_back-requires-clause-slot
give_back-requires-clause-slot c =
    let q = c.requires.fresh in
    let s = c.args.self.now in
    let d = c.index_mut-hand.result.now in
    let at = is_at s q.0 (entry_of c.args.op) q.1 d q.2 (rw c.spec.ensures at c.index_mut-hand.ensures.value) in
    rw (c.spec.ensures, c.set_pos.ensures) (at.below, at.listed)

pub give_back-requires-clause-op : goal.give_back-requires-clause-op
give_back-requires-clause-op c =
    let q = c.requires.fresh in
    let s = c.args.self.now in
    let d = c.index_mut-hand.result.now in
    let at = is_at s q.0 (entry_of c.args.op) q.1 d q.2 (rw c.spec.ensures at c.index_mut-hand.ensures.value) in
    waits s q.0 c.args.op q.1 d c.index.result.now c.set_pos.new.self q.2 at (rw c.spec.ensures at c.index.ensures) c.set_pos.ensures q.3

pub returns-clause-laden : goal.returns-clause-laden
returns-clause-laden c sessions rest l =
    let s = c.args.self.now in
    let d = c.index_mut-hand.result.now in
    let e = c.give_back.new.self in
    rw c.spec.ensures
    (handed_on s sessions (entry_of c.args.op) rest d e l (rw c.spec.ensures at c.index_mut-hand.ensures.value) (unlisted_later d e (c.args.op.spec.pos % s.slots) (rw c.spec.ensures at c.give_back.ensures)).1)

pub returns-clause-same : goal.returns-clause-same
returns-clause-same c =
    let q = c.requires.fresh in
    let s = c.args.self.now in
    let d = c.index_mut-hand.result.now in
    let e = c.give_back.new.self in
    let at = is_at s q.0 (entry_of c.args.op) q.1 d q.2 (rw c.spec.ensures at c.index_mut-hand.ensures.value) in
    let l = unlisted_later d e _ c.give_back.ensures in
    record {
      hands = rw c.spec.ensures (hands_set s.hands.items _ d e at.at l.0);
      codes = refl;
      cap = refl;
      slots = refl;
      index = refl;
    }

pub returns-clause-sum : goal.returns-clause-sum
returns-clause-sum c =
    let q = c.requires.fresh in
    let s = c.args.self.now in
    let d = c.index_mut-hand.result.now in
    let e = c.give_back.new.self in
    let at = is_at s q.0 (entry_of c.args.op) q.1 d q.2 (rw c.spec.ensures at c.index_mut-hand.ensures.value) in
    let l = unlisted_later d e _ c.give_back.ensures in
    rw c.spec.ensures (let t = sum_set s.hands.items _ d e at.at in omega (arith, t, l.2))
