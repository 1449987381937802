use Rattle.std.proofs.Common.{◌≡◌, ℕ, ◌+◌, ◌/◌, ◌%◌, ◌^◌, length, ap, ◌∙◌, sym, arith}
use Rattle.capture_io.specs.Generated.{drawn_bytes, drawn_length, marked, state_after}
use Rattle.capture_io.proofs.Drawing.{first_draw, part_length, record_spelled}
use Rattle.capture_io.proofs.drawn.spell_record.Goals as goal

pub returns-clause-bytes : goal.returns-clause-bytes
returns-clause-bytes c =
    let state = c.next_state-state.ensures in
    let len_is = ap (λ (x : ℕ). 60 + x / 2 ^ 33 % 1455) state in
    let size : length c.copy_from_slice.new.self ≡ 16 = omega (arith, c.copy_from_slice.auto.self) in
    let part = part_length _ c.copy_from_slice.new.self c.args.ready.now size (omega arith) (omega arith) in
    let packet = c.mark.ensures
    ∙ ap (marked c.args.i) (c.draw_bytes-state.ensures.bytes ∙ ap (λ (n : ℕ). drawn_bytes n c.next_state-state.result) (part ∙ len_is) ∙ ap (drawn_bytes (drawn_length c.args.before)) state) in
    record_spelled c.args.i c.args.before _ _ c.copy_from_slice.new.self c.mark.new.bytes _ size (omega (arith, c.mark.auto.bytes, c.draw_bytes-state.auto.bytes)) len_is
    (c.copy_from_slice.ensures.after ∙ c.spelled_words-words.ensures) packet

pub returns-clause-state : goal.returns-clause-state
returns-clause-state c =
    let state = c.next_state-state.ensures in
    let len_is = ap (λ (x : ℕ). 60 + x / 2 ^ 33 % 1455) state in
    let part = part_length _ c.copy_from_slice.new.self c.args.ready.now (omega (arith, c.copy_from_slice.auto.self)) (omega arith) (omega arith) in
    c.draw_bytes-state.ensures.state ∙ ap (λ (n : ℕ). state_after n c.next_state-state.result) (part ∙ len_is) ∙ ap (state_after (drawn_length c.args.before)) state
    ∙ sym (first_draw (drawn_length c.args.before) c.args.before)
