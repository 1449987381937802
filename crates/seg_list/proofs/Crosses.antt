-- A chain may cross threads as its elements may.
use Rattle.std.specs.Prelude.{List, [], ◌∷◌}
use base.Fraction.{full_share}
use base.Fml.{ftrue}
use base.Shift.{Keyless}
use denote.Exit.{Exit, unchanged, leaves, hidden, under}
use denote.RattleType.{RattleType}
use denote.RawPtr.{Ptr, block_ptr, null_ptr, block_of, count_of, lies_at, in_block}
use denote.Builtin.{RawPtr}
use denote.Struct.Struct.{exits_of}
use denote.Struct.Owning.{shape, fields, to}
use denote.Struct.Lending.{lent_at}
use denote.Param.Send.{IsSend, IsSync, Quiet, Common, AllSend, part_keyless, owning_send, struct_send, struct_sync, sendable}
use Rattle.std.proofs.Crossing.{frees}
use Rattle.std.specs.contracts.alloc.Global as heap
use Rattle.seg_list.specs.Links.{Link}
use Rattle.seg_list.specs.Ownership.{heap_token, chain_owns, chain_lent}
use Rattle.seg_list.specs.contracts.chain.Chain as Chain
use Rattle.seg_list.specs.contracts.node.Node as Node
use Rattle.seg_list.proofs.node.Node.TheSendSync as sent

quiet : {D X : Type 0} (f : D → X) (e : Exit X) → Quiet e → Quiet (hidden (under f e))
quiet f unchanged q = λ x w. tt
quiet f (leaves L l S s r₀) q = λ d. q (f d)

lies : (R : RattleType) → IsSend R → (p : Ptr) (x : R.Denot) → Keyless (lies_at R full_share p x)
lies R s (block_ptr b o) x = part_keyless R s full_share x b o
lies R s null_ptr x = tt

inside : (p : Ptr) → Keyless (in_block p ftrue)
inside (block_ptr b o) = tt
inside null_ptr = tt

seen : (R : RattleType) → IsSync R → (p : Ptr) (x : R.Denot) → Common (lent_at R p x)
seen R s p x κ = (inside p, s.shared x (block_of p) (count_of p) κ)

pointer_send : IsSend RawPtr
pointer_send = search sendable

pointer_sync : IsSync RawPtr
pointer_sync = search sendable

node_send : (R : RattleType) → IsSend R → IsSend (Node.the_row R)
node_send R s = sent.the_send R s

node_sync : (R : RattleType) → IsSync R → IsSync (Node.the_row R)
node_sync R s = sent.the_sync R s

owns-Keyless : (R : RattleType) → IsSend R → (a : heap.the_row.Denot) (ls : List Link) (xs : List R.Denot) → Keyless (chain_owns R (heap_token a) ls xs)
owns-Keyless R s a [] xs = tt
owns-Keyless R s a (l ∷ ls) [] = tt
owns-Keyless R s a (l ∷ ls) (x ∷ xs) = ((lies (Node.the_row R) (node_send R s) l.0 (record { next = l.1; elem = x }), frees.frees a _ l.0), owns-Keyless R s a ls xs)

lent-Common : (R : RattleType) → IsSync R → (ls : List Link) (xs : List R.Denot) → Common (chain_lent R ls xs)
lent-Common R y [] xs κ = tt
lent-Common R y (l ∷ ls) [] κ = tt
lent-Common R y (l ∷ ls) (x ∷ xs) κ = (seen (Node.the_row R) (node_sync R y) l.0 (record { next = l.1; elem = x }) κ, lent-Common R y ls xs κ)

pub Chain-sync : (R : RattleType) → IsSync R → IsSync (Chain.the_row R)
Chain-sync R y = let O = Chain.the_type R in record {
  shared = λ d b o κ. ((struct_sync (shape O) (pointer_sync, (pointer_sync, tt))).shared (to O d) b o κ, lent-Common R y d.links d.items κ);
}

pub Chain-send : (R : RattleType) → IsSend R → IsSend (Chain.the_row R)
Chain-send R s =
    let O = Chain.the_type R in
    let all : AllSend (fields O) = (pointer_send, (pointer_send, tt)) in
    owning_send O all (λ d. owns-Keyless R s d.heap d.links d.items) (λ k. quiet (to O) (exits_of k (fields O)) ((struct_send (shape O) all).leaving k))
