use Rattle.std.proofs.Common.{arith, refl, ◌%◌}
use Rattle.crypto_op.specs.Op.{entry_of}
use Rattle.sched_multicore.proofs.Carrying.{sum_set}
use Rattle.sched_multicore.proofs.Handing.{code_within, hand_within, handed_on, is_at, is_finished}
use Rattle.sched_multicore.proofs.Passing.{hands_set, ended_later}
use Rattle.sched_multicore.proofs.carrier.Carrier.finish.Goals as goal

pub index-requires : goal.index-requires
index-requires g c =
    let q = c.requires.done in
    let s = c.args.self.now in
    rw c.spec.ensures (omega (arith, code_within s q.0 (entry_of c.args.op) q.1 q.2, s.saved.ok.0))

pub index_mut-hand-requires : goal.index_mut-hand-requires
index_mut-hand-requires g c =
    let q = c.requires.done in
    let s = c.args.self.now in
    rw c.spec.ensures (omega (arith, hand_within s q.0 (entry_of c.args.op) q.1 q.2, s.hands.ok.0))

pub finish-requires-clause-slot : goal.finish-requires-clause-slot
finish-requires-clause-slot g c =
    let q = c.requires.done in
    let s = c.args.self.now in
    let d = c.index_mut-hand.result.now in
    let at = is_at s q.0 (entry_of c.args.op) q.1 d q.2 (rw c.spec.ensures at c.index_mut-hand.ensures.value) in
    rw (c.spec.ensures, c.set_pos.ensures) (at.below, at.listed)

pub finish-requires-clause-op : goal.finish-requires-clause-op
finish-requires-clause-op g c =
    let q = c.requires.done in
    let s = c.args.self.now in
    let d = c.index_mut-hand.result.now in
    let at = is_at s q.0 (entry_of c.args.op) q.1 d q.2 (rw c.spec.ensures at c.index_mut-hand.ensures.value) in
    is_finished s q.0 c.args.op q.1 d c.index.result.now c.set_pos.new.self q.2 at (rw c.spec.ensures at c.index.ensures) c.set_pos.ensures q.3

pub returns-clause-laden : goal.returns-clause-laden
returns-clause-laden g c sessions rest l =
    let s = c.args.self.now in
    let d = c.index_mut-hand.result.now in
    let e = c.finish.new.self in
    rw c.spec.ensures
    (handed_on s sessions (entry_of c.args.op) rest d e l (rw c.spec.ensures at c.index_mut-hand.ensures.value) (ended_later d e (c.args.op.spec.pos % s.slots) (rw c.spec.ensures at c.finish.ensures)).1)

pub returns-clause-same : goal.returns-clause-same
returns-clause-same g c =
    let q = c.requires.done in
    let s = c.args.self.now in
    let d = c.index_mut-hand.result.now in
    let e = c.finish.new.self in
    let at = is_at s q.0 (entry_of c.args.op) q.1 d q.2 (rw c.spec.ensures at c.index_mut-hand.ensures.value) in
    let l = ended_later d e _ c.finish.ensures in
    record {
      hands = rw c.spec.ensures (hands_set s.hands.items _ d e at.at l.0);
      codes = refl;
      cap = refl;
      slots = refl;
      index = refl;
    }

pub returns-clause-sum : goal.returns-clause-sum
returns-clause-sum g c =
    let q = c.requires.done in
    let s = c.args.self.now in
    let d = c.index_mut-hand.result.now in
    let e = c.finish.new.self in
    let at = is_at s q.0 (entry_of c.args.op) q.1 d q.2 (rw c.spec.ensures at c.index_mut-hand.ensures.value) in
    let l = ended_later d e _ c.finish.ensures in
    rw c.spec.ensures (let t = sum_set s.hands.items _ d e at.at in omega (arith, t, l.2))
