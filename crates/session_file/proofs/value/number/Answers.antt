use Rattle.std.proofs.Common.{◌∙◌, ◌+◌, ◌-◌, ◌*◌, ap, arith}
use Rattle.std.specs.Prelude.{slice_index}
use Rattle.session_file.proofs.Values.{digit_at, one_more, so_far_small, whole_number}
use Rattle.session_file.proofs.value.number.Goals as goal

pub overflow_mul-value : goal.overflow_mul-value
overflow_mul-value c = let small = so_far_small c.args.word.now c.loop-digit.digit-index c.requires in omega (arith, c.loop-digit.invariant)

pub overflow_sub-digit : goal.overflow_sub-digit
overflow_sub-digit c = (digit_at c.args.word.now c.loop-digit.digit-index c.requires (omega arith)).0

pub overflow_add-value : goal.overflow_add-value
overflow_add-value c =
    let small = so_far_small c.args.word.now c.loop-digit.digit-index c.requires in
    let digit = digit_at c.args.word.now c.loop-digit.digit-index c.requires (omega arith) in
    omega (arith, c.loop-digit.invariant)

pub loop-digit-preserved : goal.loop-digit-preserved
loop-digit-preserved c =
    rw c.from.ensures (ap (λ n. n * 10 + (slice_index c.args.word.now c.loop-digit.digit-index - 48)) c.loop-digit.invariant
    ∙ one_more c.args.word.now c.loop-digit.digit-index c.requires (omega arith))

pub returns-clause-value : goal.returns-clause-value
returns-clause-value c = c.loop-digit.invariant ∙ whole_number c.args.word.now c.loop-digit.digit-index (omega arith)

pub returns-clause-small : goal.returns-clause-small
returns-clause-small c = let small = so_far_small c.args.word.now c.loop-digit.digit-index c.requires in omega (arith, c.loop-digit.invariant)
