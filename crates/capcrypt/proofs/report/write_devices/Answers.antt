use Rattle.std.proofs.Common.{◌+◌, ◌++◌, List, ℕ, ◌∙◌, sym, ap, subst, take, drop, suc, get_or, refl, arith, append_assoc}
use Rattle.capcrypt.specs.Report.{device_lines}
use Rattle.capcrypt.specs.Ran.{AppendsFront}
use Rattle.capcrypt.proofs.Fronts.{on_err_front, front_of_part, front_within, lines_more, lines_split, device_line}
use Rattle.capcrypt.proofs.report.write_devices.Goals as goal

pub returns-in_err-write_all-clause-fault : goal.returns-in_err-write_all-clause-fault
returns-in_err-write_all-clause-fault g c told =
    let m = get_or c.args.devices.now c.loop-i.i 0 in
    on_err_front c.from_residual.result _ _ _ (front_within (device_lines 0 (take c.loop-i.i c.args.devices.now)) (device_line c.loop-i.i m) (device_lines (c.loop-i.i + 1) (drop (suc c.loop-i.i) c.args.devices.now)) _ _ (g.E.Sink.written c.loop-i.report) _
    (lines_split c.args.devices.now c.loop-i.i m (omega arith) refl) (c.loop-i.invariant.written told)
    (subst (λ (l : List ℕ). AppendsFront (g.E.Sink.written c.loop-i.report) (g.E.Sink.written c.write_all.new.sink) l) (c.text.ensures ∙ c.line_of_device.ensures) (front_of_part _ _ _ (c.in_err-write_all.ensures.fault told))))

pub loop-i-preserved : goal.loop-i-preserved
loop-i-preserved g c =
    let m = get_or c.args.devices.now c.loop-i.i 0 in
    record {
      written = λ told. c.in_ok-write_all.ensures.written told ∙ ap (λ (l : List ℕ). g.E.Sink.written c.loop-i.report ++ l) (c.text.ensures ∙ c.line_of_device.ensures)
          ∙ ap (λ (l : List ℕ). l ++ device_line c.loop-i.i m) (c.loop-i.invariant.written told)
          ∙ append_assoc (g.E.Sink.written c.args.report.now) (device_lines 0 (take c.loop-i.i c.args.devices.now)) (device_line c.loop-i.i m)
          ∙ ap (λ (l : List ℕ). g.E.Sink.written c.args.report.now ++ l) (sym (lines_more c.args.devices.now c.loop-i.i m (omega arith) refl));
      later = omega (arith, c.loop-i.invariant.later, c.write_all.ensures.later);
      steady = λ keeps. c.in_ok-write_all.ensures.steady keeps ∙ c.loop-i.invariant.steady keeps;
    }
