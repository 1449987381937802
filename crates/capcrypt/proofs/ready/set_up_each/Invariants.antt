use Rattle.std.proofs.Common.{◌≡◌, length, drop}
use Rattle.capcrypt.specs.Devices.{device_now}
use Rattle.capcrypt.specs.Served.{WereSetUp}
use Rattle.capcrypt.proofs.ready.set_up_each.Given as goal

abbrev pub invariant-loop-i : goal.invariant-loop-i
invariant-loop-i g l = record {
  ready : WereSetUp (device_now g.D.Device.limit g.D.Driver.sessions g.D.Driver.held g.D.Driver.room g.D.Driver.stalls g.D.Driver.stats g.D.Driver.log) l.plan l.i l.fn.devs.items l.devs.items;
  others : drop l.i l.devs.items ≡ drop l.i l.fn.devs.items;
  count : length l.devs.items ≡ length l.fn.devs.items;
}
