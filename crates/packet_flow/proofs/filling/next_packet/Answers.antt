use Rattle.std.proofs.Common.{◌≡◌, ◌∙◌, ap, subst, sym}
use Rattle.std.specs.Prelude.{None, Some}
use Rattle.capture_io.specs.declared.header.ReadStop.{ReadStop}
use Rattle.packet_flow.specs.Packet.{put_back, with_given}
use Rattle.packet_flow.specs.Reads.{IsWholeStop, Moves}
use Rattle.packet_flow.proofs.Begun.{none_stopped}
use Rattle.packet_flow.proofs.Moving.{if_it_goes_on, moves_by_read}
use Rattle.packet_flow.proofs.filling.next_packet.Goals as goal

pub returns-in-Some-read-clause-moves : goal.returns-in-Some-read-clause-moves
returns-in-Some-read-clause-moves g c =
    let old = c.args.window.now in
    let none = c.take.ensures.none c.in_default.is in
    let read = c.read in
    let here = λ (stop : ReadStop) (is : read.result ≡ Some stop). (let both : Some c.in-Some-read.stop ≡ Some stop = sym c.in-Some-read.is ∙ is in let same : c.in-Some-read.stop ≡ stop = cc in same) in
    if_it_goes_on c.in-Some-read.stop c.stopped.result (λ p. Moves c.args.header.now.big g.S.Source.tells (g.S.Source.left c.args.src.now) (g.S.Source.left read.new.src) old (with_given p read.new.self)) c.stopped.ensures
    (λ whole. moves_by_read c.args.header.now.big g.S.Source.tells (g.S.Source.left c.args.src.now) (g.S.Source.left read.new.src) old c.take.new.self read.new.self read.result none.0
    (none_stopped old.waiting none.1 c.requires.some) read.ensures.next read.ensures.stop read.ensures.read read.ensures.range
    (λ stop is. (subst IsWholeStop (here stop is) whole, λ told ended. read.ensures.ended told (is ∙ ap Some ended))))

pub returns-in-None-clause-moves : goal.returns-in-None-clause-moves
returns-in-None-clause-moves g c =
    let old = c.args.window.now in
    let none = c.take.ensures.none c.in_default.is in
    let read = c.read in
    moves_by_read c.args.header.now.big g.S.Source.tells (g.S.Source.left c.args.src.now) (g.S.Source.left read.new.src) old c.take.new.self read.new.self None none.0
    (none_stopped old.waiting none.1 c.requires.some) c.in-None.ensures.next c.in-None.ensures.stop c.in-None.ensures.read c.in-None.ensures.range
    (λ stop is. absurd (let no : None ≡ Some stop = is in cc))

pub returns-in-Ok-clause-moves : goal.returns-in-Ok-clause-moves
returns-in-Ok-clause-moves g c =
    let old = c.args.window.now in
    let none = c.take.ensures.none c.in_default.is in
    let read = c.read_one in
    moves_by_read c.args.header.now.big g.S.Source.tells (g.S.Source.left c.args.src.now) (g.S.Source.left read.new.src) old c.take.new.self (put_back c.in-Ok.packet read.new.self) None none.0
    (none_stopped old.waiting none.1 c.requires.some) c.in-Ok.ensures.next c.in-Ok.ensures.stop c.in-Ok.ensures.read c.in-Ok.ensures.range
    (λ stop is. absurd (let no : None ≡ Some stop = is in cc))
