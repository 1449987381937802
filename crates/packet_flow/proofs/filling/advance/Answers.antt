use Rattle.std.proofs.Common.{◌≡◌, ◌+◌, Bool, ap, sym, subst, refl, ◌∙◌, arith}
use Rattle.std.specs.Prelude.{Option, Err, IfSome}
use Rattle.std.proofs.lemmas.Result.{err_from_is_err_and}
use Rattle.capture_io.specs.Limits.{IsSmall}
use Rattle.packet_flow.specs.declared.flow.FlowEnd.TheVariants.{WriteFault, OutOfMemory}
use Rattle.packet_flow.specs.declared.passage.Passage.{Passage}
use Rattle.packet_flow.specs.declared.window.Packet.{Packet}
use Rattle.packet_flow.specs.Packet.{put_back}
use Rattle.packet_flow.specs.Passage.{Outside}
use Rattle.packet_flow.specs.Seats.{AllIn}
use Rattle.packet_flow.specs.Window.{IsInRange}
use Rattle.packet_flow.specs.Writing.{Appends, CutsNext, HasWritten}
use Rattle.packet_flow.proofs.Begun.{added_in, begun_and_cut, begun_and_written, ended_early, entries, few_answers, few_made, few_now, if_err_is, moved_on, said_by, stand, waiting}
use Rattle.packet_flow.proofs.Moving.{taken_up}
use Rattle.packet_flow.proofs.Passing.{none_in_slots, passed_and_cut, passed_and_written}
use Rattle.packet_flow.proofs.filling.advance.Goals as goal

pub returns-in_err-packet-clause-ends : goal.returns-in_err-packet-clause-ends
returns-in_err-packet-clause-ends g c b o big left wrote u =
    let end = c.in_err-packet.field-0.0 in
    if_err_is c.from_residual.result _ end (err_from_is_err_and c.from_residual.result c.from_residual.ensures.1)
    (ended_early c.args.plan.now b g.S.Source.tells g.K.Sink.tells c.args.passage.now o end (g.S.Source.left c.next_packet.new.src) (g.K.Sink.written c.args.out.now)
    c.in_err-packet.ensures.early (λ is. c.in_err-packet.ensures.unwritten (ap Err is)) wrote u)

pub returns-in_default-clause-underway : goal.returns-in_default-clause-underway
returns-in_default-clause-underway g c b o big left wrote u =
    let none = c.in_default.is in
    moved_on c.args.plan.now b g.S.Source.tells g.K.Sink.tells c.args.passage.now o c.next_packet.new.window c.args.header.now.big (g.S.Source.left c.args.src.now) (g.S.Source.left c.next_packet.new.src) (g.K.Sink.written c.args.out.now)
    c.requires.some (rw none at c.in_ok-packet.ensures.moves) big left wrote u

pub pass_on-requires : goal.pass_on-requires
pass_on-requires g c =
    let r = c.requires.underway in
    let few = few_answers c.args.plan.now r.0 g.S.Source.tells g.K.Sink.tells c.args.passage.now r.1 r.5 c.args.passage.now.slots _ r.5.stand in
    record { few = (few.0, few.1, omega (arith, few.2)) }

pub returns-in_err-pass_on-clause-ends : goal.returns-in_err-pass_on-clause-ends
returns-in_err-pass_on-clause-ends g c b o big left wrote u =
    let plan = c.args.plan.now in
    let p = c.args.passage.now in
    let s_tells = g.S.Source.tells in
    let k_tells = g.K.Sink.tells in
    let packet = c.in-Some.packet in
    let w = c.next_packet.new.window in
    let old = g.K.Sink.written c.args.out.now in
    let now = taken_up plan b s_tells k_tells p o c.args.header.now.big (g.S.Source.left c.args.src.now) (g.S.Source.left c.next_packet.new.src) old c.in_ok-packet.field-0 packet w c.requires.some c.in-Some.is c.in_ok-packet.ensures.moves big left wrote u in
    let taken = subst (λ (x : Option Packet). IfSome x (λ p. IsSmall p.rec × (w.next ≡ p.number + 1) × IsInRange w)) c.in-Some.is c.in_ok-packet.ensures.taken in
    let q : Passage = record p { window = put_back packet w } in
    let at : Outside = record o { left = g.S.Source.left c.next_packet.new.src; written = old } in
    if_err_is c.from_residual-in_err-pass_on.result _ WriteFault (err_from_is_err_and c.from_residual-in_err-pass_on.result c.from_residual-in_err-pass_on.ensures.1)
    (passed_and_cut plan b s_tells k_tells q at now packet w refl taken.1 taken.2 (none_in_slots p.slots c.is_empty.result c.is_empty.ensures c.if-is_empty.true) (sym c.lets_pass.ensures ∙ c.if-lets_pass.true)
    c.args.header.now.big old (g.K.Sink.written c.pass_on.new.out) c.pass_on.new.counts big refl c.in_err-pass_on.ensures.stays c.in_err-pass_on.ensures.cut)

pub returns-then-lets_pass-clause-underway : goal.returns-then-lets_pass-clause-underway
returns-then-lets_pass-clause-underway g c b o big left wrote u =
    let plan = c.args.plan.now in
    let p = c.args.passage.now in
    let s_tells = g.S.Source.tells in
    let k_tells = g.K.Sink.tells in
    let packet = c.in-Some.packet in
    let w = c.next_packet.new.window in
    let old = g.K.Sink.written c.args.out.now in
    let now = taken_up plan b s_tells k_tells p o c.args.header.now.big (g.S.Source.left c.args.src.now) (g.S.Source.left c.next_packet.new.src) old c.in_ok-packet.field-0 packet w c.requires.some c.in-Some.is c.in_ok-packet.ensures.moves big left wrote u in
    let taken = subst (λ (x : Option Packet). IfSome x (λ p. IsSmall p.rec × (w.next ≡ p.number + 1) × IsInRange w)) c.in-Some.is c.in_ok-packet.ensures.taken in
    let before : Passage = record p { window = put_back packet w } in
    let at : Outside = record o { left = g.S.Source.left c.next_packet.new.src; written = old } in
    let q : Passage = record p { window = w; counts = c.pass_on.new.counts } in
    passed_and_written plan b s_tells k_tells before at now packet w refl taken.1 taken.2 (none_in_slots p.slots c.is_empty.result c.is_empty.ensures c.if-is_empty.true) (sym c.lets_pass.ensures ∙ c.if-lets_pass.true)
    c.args.header.now.big old (g.K.Sink.written c.pass_on.new.out) q big refl refl refl refl refl refl c.in_ok-pass_on.ensures.counted c.in_ok-pass_on.ensures.written

pub begin-requires-clause-few : goal.begin-requires-clause-few
begin-requires-clause-few g c = let r = c.requires.underway in omega (arith, few_made c.args.plan.now r.0 g.S.Source.tells g.K.Sink.tells c.args.passage.now r.1 r.5)

pub returns-in_err-begin-clause-ends : goal.returns-in_err-begin-clause-ends
returns-in_err-begin-clause-ends g c b o big left wrote u =
    if_err_is c.from_residual-in_err-begin.result _ OutOfMemory (err_from_is_err_and c.from_residual-in_err-begin.result c.from_residual-in_err-begin.ensures.1)
    (ended_early c.args.plan.now b g.S.Source.tells g.K.Sink.tells c.args.passage.now o OutOfMemory (g.S.Source.left c.next_packet.new.src) (g.K.Sink.written c.args.out.now)
    (λ w. w) (λ no. cc) wrote u)

pub write_ready-requires-clause-few : goal.write_ready-requires-clause-few
write_ready-requires-clause-few g c =
    let r = c.requires.underway in
    let plan = c.args.plan.now in
    let p = c.args.passage.now in
    let packet = c.in-Some.packet in
    let w = c.next_packet.new.window in
    let now = taken_up plan r.0 g.S.Source.tells g.K.Sink.tells p r.1 c.args.header.now.big (g.S.Source.left c.args.src.now) (g.S.Source.left c.next_packet.new.src) (g.K.Sink.written c.args.out.now) c.in_ok-packet.field-0 packet w
    c.requires.some c.in-Some.is c.in_ok-packet.ensures.moves r.2 r.3 r.4 r.5 in
    let taken = subst (λ (x : Option Packet). IfSome x (λ p. IsSmall p.rec × (w.next ≡ p.number + 1) × IsInRange w)) c.in-Some.is c.in_ok-packet.ensures.taken in
    let q : Passage = record p { window = put_back packet w } in
    let at : Outside = record r.1 { left = g.S.Source.left c.next_packet.new.src; written = g.K.Sink.written c.args.out.now } in
    few_now plan r.0 g.S.Source.tells g.K.Sink.tells q at now packet w refl taken.1 taken.2 c.begin.new.slots c.begin.new.burst c.begin.new.made
    (added_in plan packet q c.begin.new.made c.begin.new.slots c.begin.new.burst r.0.big c.args.header.now.big r.2 c.in_ok-begin.ensures)

pub returns-in_err-write_ready-clause-ends : goal.returns-in_err-write_ready-clause-ends
returns-in_err-write_ready-clause-ends g c b o big left wrote u =
    let plan = c.args.plan.now in
    let p = c.args.passage.now in
    let s_tells = g.S.Source.tells in
    let k_tells = g.K.Sink.tells in
    let packet = c.in-Some.packet in
    let w = c.next_packet.new.window in
    let old = g.K.Sink.written c.args.out.now in
    let new = g.K.Sink.written c.write_ready.new.out in
    let now = taken_up plan b s_tells k_tells p o c.args.header.now.big (g.S.Source.left c.args.src.now) (g.S.Source.left c.next_packet.new.src) old c.in_ok-packet.field-0 packet w c.requires.some c.in-Some.is c.in_ok-packet.ensures.moves big left wrote u in
    let taken = subst (λ (x : Option Packet). IfSome x (λ p. IsSmall p.rec × (w.next ≡ p.number + 1) × IsInRange w)) c.in-Some.is c.in_ok-packet.ensures.taken in
    let before : Passage = record p { window = put_back packet w } in
    let at : Outside = record o { left = g.S.Source.left c.next_packet.new.src; written = old } in
    let begun = added_in plan packet before c.begin.new.made c.begin.new.slots c.begin.new.burst b.big c.args.header.now.big big c.in_ok-begin.ensures in
    let all = waiting plan b s_tells k_tells before at now packet w refl taken.1 taken.2 c.begin.new.slots c.begin.new.burst c.begin.new.made begun in
    let es = entries plan b s_tells k_tells before at now packet w refl taken.1 taken.2 c.begin.new.slots c.begin.new.burst c.begin.new.made begun in
    let stands = stand plan b s_tells k_tells before at now packet w refl taken.1 taken.2 c.begin.new.slots c.begin.new.burst c.begin.new.made begun in
    let cut = said_by (λ x l. HasWritten plan all es c.write_ready.new.self p.counts c.write_ready.new.counts (CutsNext plan x k_tells l new)) b.big c.args.header.now.big old old
    big refl (c.in_err-write_ready.ensures.cut plan all es stands) in
    if_err_is c.from_residual-in_err-write_ready.result _ WriteFault (err_from_is_err_and c.from_residual-in_err-write_ready.result c.from_residual-in_err-write_ready.ensures.1)
    (begun_and_cut plan b s_tells k_tells before at now packet w refl taken.1 taken.2 c.begin.new.slots c.begin.new.burst c.begin.new.made begun new c.write_ready.new.counts c.write_ready.new.self cut)

pub returns-clause-underway : goal.returns-clause-underway
returns-clause-underway g c b o big left wrote u =
    let plan = c.args.plan.now in
    let p = c.args.passage.now in
    let s_tells = g.S.Source.tells in
    let k_tells = g.K.Sink.tells in
    let packet = c.in-Some.packet in
    let w = c.next_packet.new.window in
    let old = g.K.Sink.written c.args.out.now in
    let new = g.K.Sink.written c.write_ready.new.out in
    let now = taken_up plan b s_tells k_tells p o c.args.header.now.big (g.S.Source.left c.args.src.now) (g.S.Source.left c.next_packet.new.src) old c.in_ok-packet.field-0 packet w c.requires.some c.in-Some.is c.in_ok-packet.ensures.moves big left wrote u in
    let taken = subst (λ (x : Option Packet). IfSome x (λ p. IsSmall p.rec × (w.next ≡ p.number + 1) × IsInRange w)) c.in-Some.is c.in_ok-packet.ensures.taken in
    let before : Passage = record p { window = put_back packet w } in
    let at : Outside = record o { left = g.S.Source.left c.next_packet.new.src; written = old } in
    let begun = added_in plan packet before c.begin.new.made c.begin.new.slots c.begin.new.burst b.big c.args.header.now.big big c.in_ok-begin.ensures in
    let all = waiting plan b s_tells k_tells before at now packet w refl taken.1 taken.2 c.begin.new.slots c.begin.new.burst c.begin.new.made begun in
    let es = entries plan b s_tells k_tells before at now packet w refl taken.1 taken.2 c.begin.new.slots c.begin.new.burst c.begin.new.made begun in
    let stands = stand plan b s_tells k_tells before at now packet w refl taken.1 taken.2 c.begin.new.slots c.begin.new.burst c.begin.new.made begun in
    let q : Passage = record p { window = w; slots = c.write_ready.new.self; counts = c.write_ready.new.counts; burst = c.begin.new.burst; made = c.begin.new.made } in
    let h = said_by (λ x l. HasWritten plan all es c.write_ready.new.self p.counts c.write_ready.new.counts (Appends plan x k_tells l new)) b.big c.args.header.now.big old old
    big refl (c.in_ok-write_ready.ensures.written plan all es stands) in
    begun_and_written plan b s_tells k_tells before at now packet w refl taken.1 taken.2 c.begin.new.slots c.begin.new.burst c.begin.new.made begun new q refl refl refl refl h c.in_ok-write_ready.ensures.waits
    (subst (λ (x : Bool). AllIn x c.write_ready.new.self) (sym big) c.write_ready.ensures.order)
