use Rattle.std.proofs.Common.{◌≡◌, ◌<◌, List, length, map, set, drop, ap, sym, subst, ◌∙◌, refl, arith}
use Rattle.std.proofs.lemmas.List.{get_or-set_same}
use Rattle.capture_io.specs.Capture.{Holds}
use Rattle.packet_flow.specs.Entries.{entries_from}
use Rattle.capcrypt.specs.declared.dealing.Dealing.{Dealing}
use Rattle.capcrypt.specs.declared.dealing.Dealing.TheVariants.{Alone}
use Rattle.capcrypt.specs.Dealing.{workers_of}
use Rattle.capcrypt.specs.Devices.{HasStalledOut, HaveStalledOut, device_now}
use Rattle.capcrypt.specs.Ran.{IsDriven, Job}
use Rattle.capcrypt.specs.Served.{WasSetUp}
use Rattle.capcrypt.specs.Start.{Begins, settings_of}
use Rattle.capcrypt.proofs.Alone.{alone_served, alone_stalled, alone_whole, never_idle, set_first}
use Rattle.capcrypt.proofs.Jobs.{served_by, wanting_by}
use Rattle.capcrypt.proofs.work.work_alone.Goals as goal

pub returns-in_default-clause-job : goal.returns-in_default-clause-job
returns-in_default-clause-job g c s_told k_told rs rest reads =
    let task = c.args.task.now in
    let old = g.K.Sink.written c.args.out.now in
    wanting_by task.plan task.burst task.dealing Alone c.requires.alone c.args.header.now rs rest c.without_packets.result old old _ _ _
    0 (omega arith) c.without_packets.ensures refl (λ k lt. absurd (omega (arith, lt))) refl

pub returns-in_default-set_up-clause-job : goal.returns-in_default-set_up-clause-job
returns-in_default-set_up-clause-job g c s_told k_told rs rest reads =
    let f = device_now g.D.Device.limit g.D.Driver.sessions g.D.Driver.held g.D.Driver.room g.D.Driver.stalls g.D.Driver.stats g.D.Driver.log in
    let task = c.args.task.now in
    let devs = c.args.devs.items in
    let old = g.K.Sink.written c.args.out.now in
    let o = c.without_packets-in_default-set_up.result in
    let job = wanting_by task.plan task.burst task.dealing Alone c.requires.alone c.args.header.now rs rest o old old
    (λ n. drop n devs ≡ drop n devs) (map f devs) (map f devs) 0 (omega arith) c.without_packets-in_default-set_up.ensures refl (λ k lt. absurd (omega (arith, lt))) refl in
    let same = ap (λ e. set devs 0 e) c.in_default-set_up.ensures.unused ∙ set_first devs c.index_mut.result.now c.index_mut.ensures.value in
    subst (λ (ds : List _). Job (Begins (settings_of task)) (Holds c.args.header.now rs rest) o old old (λ n. drop n ds ≡ drop n devs) (map f devs) (map f ds)) (sym same) job

pub send_packets-outcome-requires-clause-works : goal.send_packets-outcome-requires-clause-works
send_packets-outcome-requires-clause-works g c d follows lens some =
    let x = c.index_mut-2.result.now in
    let there : 0 < length c.args.devs.items = omega (arith, c.requires.can.devices.0, c.requires.can.devices.1) in
    let same : x ≡ c.set_up.new.dev = c.index_mut-2.ensures.value ∙ get_or-set_same c.args.devs.items 0 c.set_up.new.dev x there in
    let ready = c.in-Ok-set_up.ensures.ready c.args.task.now.plan c.in-Ok.ensures in
    never_idle (g.D.Driver.admits d lens) (length lens) (g.D.Device.limit d) (length (g.D.Driver.held d)) some
    (g.met.D.Device.keeps_depth x d follows ∙ ap g.D.Device.limit same ∙ ready.served.depth) (g.met.D.Driver.room_admits d _ lens (g.met.D.Device.room_told d))

pub returns-clause-job : goal.returns-clause-job
returns-clause-job g c s_told k_told rs rest reads =
    let f = device_now g.D.Device.limit g.D.Driver.sessions g.D.Driver.held g.D.Driver.room g.D.Driver.stalls g.D.Driver.stats g.D.Driver.log in
    let task = c.args.task.now in
    let devs = c.args.devs.items in
    let x = c.index_mut.result.now in
    let mid = c.set_up.new.dev in
    let again = c.index_mut-2.result.now in
    let d = c.send_packets-outcome.new.dev in
    let sent = c.send_packets-outcome.ensures in
    let e = c.send_packets-outcome.result.ending in
    let old = g.K.Sink.written c.args.out.now in
    let new = g.K.Sink.written c.send_packets-outcome.new.out in
    let there : 0 < length devs = omega (arith, c.requires.can.devices.0, c.requires.can.devices.1) in
    let same : again ≡ mid = c.index_mut-2.ensures.value ∙ get_or-set_same devs 0 mid again there in
    let made = c.in-Ok-set_up.ensures.ready task.plan c.in-Ok.ensures in
    let ready = subst (λ y. WasSetUp task.plan (f y) (f mid)) c.index_mut.ensures.value made in
    let driven = sent.driven s_told k_told rs rest reads in
    let ops = entries_from task.plan 0 rs in
    let drv = subst (λ y. IsDriven task.burst ops e driven.0 (f d).enqueued (f y).log (f d).log) same driven.2 in
    let depth = g.met.D.Device.keeps_depth again d sent.follows ∙ ap g.D.Device.limit same ∙ made.served.depth in
    let sessions = sent.sessions ∙ ap g.D.Driver.sessions same ∙ made.served.sessions in
    let back = set (set devs 0 mid) 0 d in
    served_by task.plan task.burst task.dealing Alone c.requires.alone c.args.header.now rs rest c.send_packets-outcome.result old new
    (λ n. drop n back ≡ drop n devs) (map f devs) (map f back) (sent.wrote s_told k_told rs rest reads) sent.header sent.devices
    (alone_served f task.plan task.burst ops e driven.0 x mid d devs there drv ready depth sessions) (λ k. alone_whole f task.plan task.burst ops e driven.0 x mid d devs there drv k)

pub returns-clause-stalled : goal.returns-clause-stalled
returns-clause-stalled g c ending =
    let f = device_now g.D.Device.limit g.D.Driver.sessions g.D.Driver.held g.D.Driver.room g.D.Driver.stalls g.D.Driver.stats g.D.Driver.log in
    let devs = c.args.devs.items in
    let mid = c.set_up.new.dev in
    let d = c.send_packets-outcome.new.dev in
    let again = c.index_mut-2.result.now in
    let there : 0 < length devs = omega (arith, c.requires.can.devices.0, c.requires.can.devices.1) in
    let same : again ≡ mid = c.index_mut-2.ensures.value ∙ get_or-set_same devs 0 mid again there in
    let made = c.in-Ok-set_up.ensures.ready c.args.task.now.plan c.in-Ok.ensures in
    let stalls = made.stalls ∙ ap g.D.Driver.stalls c.index_mut.ensures.value in
    let out = subst (λ y. HasStalledOut (f y).stalls (f d).enqueued (f d).stalls) same (c.send_packets-outcome.ensures.stalled ending) in
    subst (λ (y : Dealing). HaveStalledOut (workers_of y) (map f devs) (map f (set (set devs 0 mid) 0 d))) (sym c.requires.alone)
    (alone_stalled f c.index_mut.result.now mid d devs there stalls out)
