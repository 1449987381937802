-- How an operation ends.
use Rattle.std.proofs.Common.{◌≡◌, ℕ, List, map, Bool, Option, None, Some, true, false, slice_get, refl, ap, sym, ◌∙◌}
use Rattle.crypto_model.specs.declared.plain.Status.{Status}
use Rattle.crypto_model.specs.declared.plain.Status.TheVariants.{Success, InvalidSession, InvalidArgs}
use Rattle.crypto_model.specs.Process.{Transform, Input, Answer, Work, refused, fits, all_worked, answer_with, answer_in, answer_of, processed}
use Rattle.seg_list.specs.Buffer.{Buffer}
use Rattle.mbuf_chain.specs.Chain.{packet_of, with_packet}
use Rattle.mbuf_chain.proofs.Chains.{with_packet-own}
use Rattle.crypto_op.specs.Op.{Request, input_of, present, made, with_chain, answered, IsFresh, IsDone}
use Rattle.crypto_op.specs.declared.op.Op.{Op}
use Rattle.crypto_op.specs.declared.spec.OpSpec.{OpSpec}
use Rattle.sym_session.specs.declared.step.Step.{Step}
use Rattle.sym_session.specs.Plain.{plain}
use Rattle.sym_engine.specs.Working.{input_for, work_of, with_answer}

pub no_session : (sessions : List (List Transform)) (input : Input) → slice_get sessions input.session.0 ≡ None → processed sessions input ≡ refused InvalidSession input
unfolding processed
no_session sessions input is = ap (λ (o : Option (List Transform)). answer_in o input) is

pub under : (sessions : List (List Transform)) (session : List Transform) (input : Input) → slice_get sessions input.session.0 ≡ Some session → processed sessions input ≡ answer_of session input
unfolding processed
under sessions session input is = ap (λ (o : Option (List Transform)). answer_in o input) is

pub unfit : (session : List Transform) (input : Input) → fits input session ≡ false → answer_of session input ≡ refused InvalidArgs input
unfit session input bad = rw bad refl

pub worked_off : (session : List Transform) (input : Input) (o : Option Work) → fits input session ≡ true
    → all_worked session input (Some (record { packet = input.packet; digest = input.digest })) ≡ o → answer_of session input ≡ answer_with input o
worked_off session input o good works = rw (good, works) refl

-- a refusal leaves packet and digest field as they were
pub refused_with : {C : Type 0} (op : Op C) (chain : List Buffer) (a : Answer) (status : Status) → a ≡ refused status (input_of (present op)) → chain ≡ op.chain
    → (status ≡ a.status) × (with_chain op chain ≡ with_answer op a)
refused_with {C = C} op chain a status is kept = (
  sym (ap (λ (x : Answer). x.status) is),
  ap (with_chain op) (kept ∙ sym (with_packet-own op.chain)) ∙ ap (with_answer op) (sym is),
)

-- what the transforms have made is the answer
pub done_with : {C : Type 0} (op : Op C) (chain : List Buffer) (digest : List ℕ) (a : Answer) → a ≡ record { status = Success; packet = packet_of chain; digest = digest }
    → chain ≡ with_packet op.chain (packet_of chain)
    → (Success ≡ a.status) × (record (with_chain op chain) { spec = record op.spec { digest = digest } } ≡ with_answer op a)
done_with {C = C} op chain digest a is written = (
  sym (ap (λ (x : Answer). x.status) is),
  ap (λ (c : List Buffer). let r : Op C = record (with_chain op c) { spec = record op.spec { digest = digest } } in r) written ∙ ap (with_answer op) (sym is),
)

-- an operation with an answer to its present request, which is its made one
pub done_by : {C : Type 0} (sessions : List (List Transform)) (old new : Op C) (a : Answer) → IsFresh old → a ≡ processed sessions (input_of (present old))
    → new ≡ record (with_answer old a) { status = a.status } → IsDone sessions new
done_by {C = C} sessions old new a fresh is new_is =
    let same : made new ≡ present old = ap made new_is ∙ sym fresh.request in
    let answer : processed sessions (input_of (made new)) ≡ a = ap (λ (r : Request). processed sessions (input_of r)) same ∙ sym is in
    record {
      status = ap (λ (op : Op C). op.status) new_is ∙ sym (ap (λ (x : Answer). x.status) answer);
      present = ap present new_is ∙ sym (ap (λ (x : Answer). answered x (made new)) answer ∙ ap (answered a) same);
    }

-- the checks of an operation, as they are made on the steps of its session
pub fit_as : (steps : List Step) (session : List Transform) (given spec : OpSpec) (p : List ℕ) (b : Bool) → map plain steps ≡ session → given ≡ spec
    → b ≡ fits (input_for given p) (map plain steps) → b ≡ fits (input_for spec p) session
fit_as steps session given spec p b same is holds = holds ∙ ap (λ (s : OpSpec). fits (input_for s p) (map plain steps)) is ∙ ap (fits (input_for spec p)) same

-- and their work
pub work_as : (steps : List Step) (session : List Transform) (given spec : OpSpec) (c : List Buffer) (o : Option Work) → map plain steps ≡ session → given ≡ spec
    → all_worked (map plain steps) (input_for spec (packet_of c)) (Some (work_of c given.digest)) ≡ o
    → all_worked session (input_for spec (packet_of c)) (Some (work_of c spec.digest)) ≡ o
work_as steps session given spec c o same is works =
    sym (ap (λ ts. all_worked ts (input_for spec (packet_of c)) (Some (work_of c spec.digest))) same)
    ∙ sym (ap (λ (s : OpSpec). all_worked (map plain steps) (input_for spec (packet_of c)) (Some (work_of c s.digest))) is) ∙ works
