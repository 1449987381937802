use Rattle.std.proofs.Common.{◌≡◌, ℕ, ◌+◌, ◌<◌, ◌/◌, ◌%◌, ◌^◌, suc, length, map, ap, sym, ◌∙◌, refl, arith}
use Rattle.std.proofs.lemmas.List.{length-set}
use Rattle.capture_io.specs.Generated.{next_state, state_after}
use Rattle.capture_io.proofs.Drawing.{no_draws, before_draws, one_more_state, one_more_byte}
use Rattle.capture_io.proofs.drawn.draw_bytes.Goals as goal

pub loop-i-init : goal.loop-i-init
loop-i-init c = record {
  bytes = ap (map (λ (v : ℕ). v % 256)) (sym (no_draws c.args.before));
  length = refl;
  state = sym (before_draws c.args.before);
}

pub loop-i-preserved : goal.loop-i-preserved
loop-i-preserved c =
    let i = c.loop-i.i in
    let bytes = c.loop-i.bytes in
    let x = c.args.before in
    let next : suc i ≡ i + 1 = omega arith in
    let inside : i < length bytes = omega (arith, c.loop-i-test.true, c.loop-i.invariant.length) in
    let state = c.next_state-state.ensures ∙ ap next_state c.loop-i.invariant.state in
    record {
      bytes = one_more_byte i x _ bytes inside c.loop-i.invariant.bytes (ap (λ (v : ℕ). v / 2 ^ 33 % 256) state);
      length = length-set bytes i _ ∙ c.loop-i.invariant.length;
      state = state ∙ sym (one_more_state i x) ∙ ap (λ (n : ℕ). state_after n x) next;
    }
