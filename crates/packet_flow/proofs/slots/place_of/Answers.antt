use Rattle.std.proofs.Common.{◌<◌, ◌-◌, length, map, ap, sym, ◌∙◌, arith}
use Rattle.std.specs.Prelude.{Some}
use Rattle.std.proofs.lemmas.List.{length-map}
use Rattle.packet_flow.specs.Laid.{slot_number}
use Rattle.packet_flow.proofs.Rising.{rises_by}
use Rattle.packet_flow.proofs.Settling.{number_at, slice_get-inside}
use Rattle.packet_flow.proofs.slots.place_of.Goals as goal

pub overflow_sub-guess : goal.overflow_sub-guess
overflow_sub-guess c =
    let ss = c.args.slots.now.items in
    let there = c.requires.there in
    let inside : 0 < length ss = omega (arith, slice_get-inside (map slot_number ss) there.0 c.args.number there.1, length-map ss slot_number) in
    let first = number_at ss 0 c.index.result.now inside c.index.ensures in
    omega (arith, rises_by 0 there.0 (slot_number c.index.result.now) c.args.number (map slot_number ss) c.requires.rising first there.1, c.number.ensures)

pub returns-then-number : goal.returns-then-number
returns-then-number c =
    let ss = c.args.slots.now.items in
    let guess = c.args.number - c.number.result in
    let inside : guess < length ss = omega (arith, c.if-guess-len.true, c.len.ensures, c.args.slots.now.ok.0) in
    let x = c.index-then-guess-len.result.now in
    number_at ss guess x inside c.index-then-guess-len.ensures ∙ ap Some (sym c.number-then-guess-len.ensures ∙ c.if-number.true)
