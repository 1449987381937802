-- An operation that comes back.
use Rattle.std.proofs.Common.{◌≡◌, ℕ, ◌+◌, ◌<◌, ◌≤◌, List, [], ◌++◌, length, get_or, take, replicate, Bool, true, false, cond, Option, None, Some, slice_get, refl, ap, sym, subst, ◌∙◌, length-append}
use Rattle.std.specs.Prelude.{if◌then◌else◌}
use Rattle.std.specs.Option.{option_map_or}
use Rattle.std.proofs.lemmas.List.{length-replicate, take_at}
use Rattle.std.proofs.lemmas.Option.{same_Some}
use Rattle.crypto_model.specs.declared.plain.SessId.{SessId}
use Rattle.crypto_model.specs.declared.plain.Status.{Status}
use Rattle.crypto_model.specs.declared.plain.Status.TheVariants.{Success, NotProcessed, AuthFailed, InvalidSession, InvalidArgs, Error}
use Rattle.crypto_model.specs.Process.{Transform, Input, Answer, Work as Done, refused, fits, all_worked, answer_with, answer_in, processed}
use Rattle.crypto_model.proofs.Processed.{length-processed}
use Rattle.mbuf_chain.specs.Chain.{packet_of}
use Rattle.mbuf_chain.proofs.Chains.{packet_of-with_packet}
use Rattle.crypto_op.specs.declared.spec.Card.{Card}
use Rattle.crypto_op.specs.declared.op.Op.{Op}
use Rattle.crypto_op.specs.Op.{Request, IsDone, made, input_of}
use Rattle.capture_io.specs.Capture.{Rec}
use Rattle.session_file.specs.declared.plan.Choice.{Choice}
use Rattle.session_file.specs.declared.plan.Choice.TheVariants.{Pass, Use}
use Rattle.session_file.specs.declared.plan.Named.{Named}
use Rattle.session_file.specs.declared.plan.Plan.{Plan}
use Rattle.packet_plan.specs.declared.session_way.SessionWay.{SessionWay}
use Rattle.packet_plan.specs.declared.way.Way.{Way}
use Rattle.packet_plan.specs.declared.written.Fate.TheVariants.{Worked}
use Rattle.packet_plan.specs.Way.{way_of}
use Rattle.packet_plan.specs.Asked.{TooShort, Works, chosen_from, asked, asked_by, asked_of, is_too_short, packet_input, room_for, sessions_of, transforms_of}
use Rattle.packet_plan.specs.Answered.{Answered, answered, answered_as, worked_on, written_orig, written_packet}
use Rattle.packet_plan.specs.Ready.{IsReady}
use Rattle.packet_plan.proofs.Begun.{found}

-- ---- a packet stays as it is, unless the operation is a success

abbrev Keeps : Status → List ℕ → List ℕ → Type 0
Keeps Success now before = Unit {0}
Keeps status now before = now ≡ before

answer_with-keeps : (input : Input) (o : Option Done) → Keeps (answer_with input o).status (answer_with input o).packet input.packet
answer_with-keeps input None = refl
answer_with-keeps input (Some w) = tt

cond-keeps : (b : Bool) (a : Answer) (input : Input) → Keeps a.status a.packet input.packet
    → Keeps (cond b a (refused InvalidArgs input)).status (cond b a (refused InvalidArgs input)).packet input.packet
cond-keeps true a input is = is
cond-keeps false a input is = refl

answer_in-keeps : (o : Option (List Transform)) (input : Input) → Keeps (answer_in o input).status (answer_in o input).packet input.packet
answer_in-keeps None input = refl
answer_in-keeps (Some session) input =
    cond-keeps (fits input session) _ input
    (answer_with-keeps input (all_worked session input (Some (record { packet = input.packet; digest = input.digest }))))

processed-keeps : (sessions : List (List Transform)) (input : Input) → Keeps (processed sessions input).status (processed sessions input).packet input.packet
unfolding processed
processed-keeps sessions input = answer_in-keeps (slice_get sessions input.session.0) input

-- what is written is the front of the answer's packet
written_front : (status : Status) (way : Way) (packet zeros : List ℕ) (a : Answer) → Keeps status a.packet (packet ++ zeros)
    → take (written_orig status way (length packet)) a.packet ≡ written_packet status way packet a
written_front Success way packet zeros a keeps = refl
written_front NotProcessed way packet zeros a keeps = ap (take (length packet)) keeps ∙ take_at packet zeros (length packet) refl
written_front AuthFailed way packet zeros a keeps = ap (take (length packet)) keeps ∙ take_at packet zeros (length packet) refl
written_front InvalidSession way packet zeros a keeps = ap (take (length packet)) keeps ∙ take_at packet zeros (length packet) refl
written_front InvalidArgs way packet zeros a keeps = ap (take (length packet)) keeps ∙ take_at packet zeros (length packet) refl
written_front Error way packet zeros a keeps = ap (take (length packet)) keeps ∙ take_at packet zeros (length packet) refl

-- ---- what was asked for

-- the session that an operation was made for, and its packet
pub record IsFor (plan : Plan) (packet : List ℕ) (input : Input) (s : Named) : Type 0 where
  pub got : slice_get plan.sessions input.session.0 ≡ Some s
  pub packet_is : input.packet ≡ packet ++ replicate (room_for (way_of (transforms_of s))) 0
  pub skip : ℕ
  pub choice : (chosen_from 0 plan.rules plan.otherwise packet).choice ≡ Use input.session skip

for_long : (plan : Plan) (packet : List ℕ) (id : SessId) (skip flow n : ℕ) (card : Card) (input : Input) (s : Named) (short : Bool)
    → (chosen_from 0 plan.rules plan.otherwise packet).choice ≡ Use id skip → slice_get plan.sessions id.0 ≡ Some s
    → (if short then TooShort else Works (record { packet = n; flow = flow }) (packet_input id s skip n packet)) ≡ Works card input → IsFor plan packet input s
for_long plan packet id skip flow n card input s true choice got is = cc
for_long plan packet id skip flow n card input s false choice got is =
    let same : packet_input id s skip n packet ≡ input = cc in
    let P : Input → Type 0 = λ i. IsFor plan packet i s in
    subst P same (record { got = got; packet_is = refl; skip = skip; choice = choice })

for_session : (plan : Plan) (packet : List ℕ) (id : SessId) (skip flow n : ℕ) (card : Card) (input : Input) (o : Option Named)
    → (chosen_from 0 plan.rules plan.otherwise packet).choice ≡ Use id skip → slice_get plan.sessions id.0 ≡ o → asked_of o id skip flow n packet ≡ Works card input
    → (s : Named) × IsFor plan packet input s
for_session plan packet id skip flow n card input None choice got is = cc
for_session plan packet id skip flow n card input (Some s) choice got is =
    (s, for_long plan packet id skip flow n card input s (is_too_short (way_of (transforms_of s)) skip (length packet)) choice got is)

for_choice : (plan : Plan) (packet : List ℕ) (choice : Choice) (flow n : ℕ) (card : Card) (input : Input)
    → (chosen_from 0 plan.rules plan.otherwise packet).choice ≡ choice → asked_by plan flow choice n packet ≡ Works card input → (s : Named) × IsFor plan packet input s
for_choice plan packet Pass flow n card input at is = cc
for_choice plan packet (Use id skip) flow n card input at is = for_session plan packet id skip flow n card input (slice_get plan.sessions id.0) at refl is

asked_for : (plan : Plan) (n : ℕ) (packet : List ℕ) (card : Card) (input : Input) → asked plan n packet ≡ Works card input → (s : Named) × IsFor plan packet input s
unfolding asked
asked_for plan n packet card input is =
    for_choice plan packet (chosen_from 0 plan.rules plan.otherwise packet).choice (chosen_from 0 plan.rules plan.otherwise packet).flow n card input refl is

-- ---- what comes back

pub record IsBack (plan : Plan) (r : Rec) (op : Op Card) (s : Named) : Type 0 where
  pub got : slice_get plan.sessions op.spec.session.0 ≡ Some s
  pub skip : ℕ
  pub choice : (chosen_from 0 plan.rules plan.otherwise r.packet).choice ≡ Use op.spec.session skip
  pub whole : length (packet_of op.chain) ≡ length r.packet + room_for (way_of (transforms_of s))
  pub front : take (written_orig op.status (way_of (transforms_of s)) (length r.packet)) (packet_of op.chain)
      ≡ written_packet op.status (way_of (transforms_of s)) r.packet (processed (sessions_of plan) (input_of (made op)))
  pub answered : answered plan op.cargo.packet r ≡ worked_on (way_of (transforms_of s)) r (processed (sessions_of plan) (input_of (made op)))
  pub status : op.status ≡ (processed (sessions_of plan) (input_of (made op))).status

pub back : (plan : Plan) (r : Rec) (op : Op Card) → IsDone (sessions_of plan) op → asked plan op.cargo.packet r.packet ≡ Works op.cargo (input_of (made op))
    → (s : Named) × IsBack plan r op s
back plan r op done asks =
    let input = input_of (made op) in
    let a = processed (sessions_of plan) input in
    let at = asked_for plan op.cargo.packet r.packet op.cargo input asks in
    let s = at.0 in
    let way = way_of (transforms_of s) in
    let zeros = replicate (room_for way) 0 in
    let session : (made op).spec.session ≡ op.spec.session = ap (λ (q : Request). q.spec.session) (sym done.present) in
    let packet : packet_of op.chain ≡ a.packet = ap (λ (q : Request). packet_of q.chain) done.present ∙ packet_of-with_packet (made op).chain a.packet (length-processed (sessions_of plan) input) in
    let keeps : Keeps op.status a.packet (r.packet ++ zeros) =
    subst (λ (p : List ℕ). Keeps op.status a.packet p) at.1.packet_is (subst (λ (t : Status). Keeps t a.packet input.packet) (sym done.status) (processed-keeps (sessions_of plan) input)) in (
      s,
      record {
        got = ap (λ (id : SessId). slice_get plan.sessions id.0) (sym session) ∙ at.1.got;
        skip = at.1.skip;
        choice = at.1.choice ∙ ap (λ (id : SessId). Use id at.1.skip) session;
        whole = ap length packet ∙ length-processed (sessions_of plan) input ∙ ap length at.1.packet_is ∙ length-append r.packet zeros ∙ ap (λ (n : ℕ). length r.packet + n) (length-replicate (room_for way) 0);
        front = ap (take (written_orig op.status way (length r.packet))) packet ∙ written_front op.status way r.packet zeros a keeps;
        answered = ap (answered_as plan r) asks ∙ ap (λ (o : Option Named). worked_on (way_of (option_map_or transforms_of o [])) r a) at.1.got;
        status = done.status;
      },
    )

-- the record that is written of an operation's packet, by a way
abbrev pub written_by : Rec → Way → ℕ → Status → List ℕ → Answered
written_by r way len status packet = record {
  rec = record {
    sec = r.sec;
    frac = r.frac;
    orig = written_orig status way r.orig;
    packet = take (written_orig status way len) packet;
  };
  fate = Worked status;
}

-- what holds of an operation that comes back, and of the way of its session
pub record IsReturned (plan : Plan) (r : Rec) (op : Op Card) (way : Way) : Type 0 where
  pub digest : way.digest_len ≤ 64
  pub whole : length (packet_of op.chain) ≡ length r.packet + room_for way
  pub written : written_by r way (length r.packet) op.status (packet_of op.chain) ≡ answered plan op.cargo.packet r

returned_by : (plan : Plan) (r : Rec) (op : Op Card) (s : Named) → IsBack plan r op s → (way_of (transforms_of s)).digest_len ≤ 64
    → IsReturned plan r op (way_of (transforms_of s))
returned_by plan r op s is digest =
    let way = way_of (transforms_of s) in
    let a = processed (sessions_of plan) (input_of (made op)) in
    let front = is.front in
    let done : written_by r way (length r.packet) op.status (packet_of op.chain) ≡ record {
      rec = record { sec = r.sec; frac = r.frac; orig = written_orig op.status way r.orig; packet = written_packet op.status way r.packet a };
      fate = Worked op.status;
    } = cc in
    let F : Status → Answered = λ t. record {
      rec = record { sec = r.sec; frac = r.frac; orig = written_orig t way r.orig; packet = written_packet t way r.packet a };
      fate = Worked t;
    } in
    record { digest = digest; whole = is.whole; written = done ∙ ap F is.status ∙ sym is.answered }

pub returned : (plan : Plan) (ways : List SessionWay) (r : Rec) (op : Op Card) → IsReady plan ways → IsDone (sessions_of plan) op
    → asked plan op.cargo.packet r.packet ≡ Works op.cargo (input_of (made op))
    → (op.spec.session.0 < length ways) × ((way : SessionWay) → way ≡ get_or ways op.spec.session.0 way → IsReturned plan r op way.way)
returned plan ways r op ready done asks =
    let at = back plan r op done asks in
    let there = found plan ways r.packet op.spec.session at.1.skip ready at.1.choice in
    let same : there.0 ≡ at.0 = same_Some _ _ (sym there.1.got ∙ at.1.got) in (
      there.1.within,
      λ way read.
          let P : SessionWay → Type 0 = λ w. IsReturned plan r op w.way in
          let B : Named → Type 0 = λ s. IsBack plan r op s in
          subst P (sym (there.1.ready way read)) (returned_by plan r op there.0 (subst B (sym same) at.1) there.1.digest),
    )
