use Rattle.std.proofs.Common.{◌≡◌, ◌-◌, length, min, Some, ap, ◌∙◌, arith}
use Rattle.dev_core.specs.Burst.{lens}
use Rattle.dev_core.proofs.Fewer.{length-lens}
use Rattle.dev_core.proofs.cuts.admitted.Goals as goal

pub returns-clause-all : goal.returns-clause-all
returns-clause-all g c =
    let d = c.args.device.now in
    let room = g.D.Device.limit d - length (g.D.Driver.held d) in
    let offered = lens c.args.max c.args.burst.now in
    let value : min (length offered) room ≡ c.min.result = omega (arith, length-lens c.args.max c.args.burst.now) in
    g.met.D.Driver.room_admits d room offered (g.met.D.Device.room_told d) ∙ ap (λ n. Some n) value

pub returns-clause-fewer : goal.returns-clause-fewer
returns-clause-fewer g c n fewer =
    let d = c.args.device.now in
    let room = g.D.Device.limit d - length (g.D.Driver.held d) in
    let offered = lens n c.args.burst.now in
    let value : min (length offered) room ≡ min n c.min.result = omega (arith, length-lens n c.args.burst.now) in
    g.met.D.Driver.room_admits d room offered (g.met.D.Device.room_told d) ∙ ap (λ n. Some n) value
