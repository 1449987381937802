use Rattle.std.proofs.Common.{◌≡◌, ◌<◌, ◌≤◌, arith, sym, ◌∙◌, ap, ◌+◌, ◌-◌, ◌*◌, take, length}
use Rattle.std.specs.Prelude.{slice_index}
use Rattle.std.specs.Str.Parse.{digits_value}
use Rattle.sched_core.proofs.Digits.{digit_at, one_more, so_far_small, whole_number}
use Rattle.sched_core.proofs.field.read_number.Goals as goal

pub overflow_mul-value : goal.overflow_mul-value
overflow_mul-value c = let small = so_far_small c.args.digits.now c.loop-b.b-index c.requires.digits c.requires.short in omega (arith, c.loop-b.invariant)

pub overflow_sub-value : goal.overflow_sub-value
overflow_sub-value c = (digit_at c.args.digits.now c.loop-b.b-index c.requires.digits c.requires.short (omega arith)).0

pub overflow_add-value : goal.overflow_add-value
overflow_add-value c =
    let small = so_far_small c.args.digits.now c.loop-b.b-index c.requires.digits c.requires.short in
    let digit = digit_at c.args.digits.now c.loop-b.b-index c.requires.digits c.requires.short (omega arith) in omega (arith, c.loop-b.invariant)

pub loop-b-preserved : goal.loop-b-preserved
loop-b-preserved c =
    ap (λ n. n * 10 + (slice_index c.args.digits.now c.loop-b.b-index - 48)) c.loop-b.invariant ∙ one_more c.args.digits.now c.loop-b.b-index c.requires.digits c.requires.short (omega arith)

pub returns : goal.returns
returns c = c.loop-b.invariant ∙ whole_number c.args.digits.now c.loop-b.b-index (omega arith)
