use Rattle.std.proofs.Common.{◌≡◌, ◌≤◌, ◌++◌, take}
use Rattle.capcrypt.specs.Report.{device_lines}
use Rattle.capcrypt.proofs.report.write_devices.Given as goal

abbrev pub invariant-loop-i : goal.invariant-loop-i
invariant-loop-i g l = record {
  written : g.E.Sink.tells → g.E.Sink.written l.report ≡ g.E.Sink.written l.fn.report ++ device_lines 0 (take l.i l.devices);
  later : g.E.Sink.faults l.fn.report ≤ g.E.Sink.faults l.report;
  steady : g.E.Sink.steady → g.E.Sink.faults l.report ≡ g.E.Sink.faults l.fn.report;
}
