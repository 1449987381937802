use Rattle.std.proofs.Common.{◌≡◌, ◌≤◌, List, length, map, drop, ap, sym, subst, ◌∙◌, arith}
use Rattle.capture_io.specs.Capture.{Holds}
use Rattle.packet_flow.specs.Entries.{entries_from}
use Rattle.packet_flow.proofs.Numbers.{entries_from-numbered}
use Rattle.sched_core.specs.Stopped.{Stopped}
use Rattle.sched_modes.specs.Running.{pool_of}
use Rattle.capcrypt.specs.declared.dealing.Dealing.{Dealing}
use Rattle.capcrypt.specs.declared.dealing.Dealing.TheVariants.{Scheduled}
use Rattle.capcrypt.specs.Dealing.{workers_of}
use Rattle.capcrypt.specs.Devices.{HaveStalledOut, device_now}
use Rattle.capcrypt.specs.Ran.{Job}
use Rattle.capcrypt.specs.Start.{Begins, IsLegal, settings_of}
use Rattle.capcrypt.proofs.Dealt.{dealt_others, dealt_stalled, dealt_served, dealt_whole, same_count, unused}
use Rattle.capcrypt.proofs.Jobs.{served_by, wanting_back}
use Rattle.capcrypt.proofs.Lists.{further_behind}
use Rattle.capcrypt.proofs.Working.{never_idle}
use Rattle.capcrypt.proofs.deal.deal_packets.Goals as goal

pub launch_ready-requires-clause-legal : goal.launch_ready-requires-clause-legal
launch_ready-requires-clause-legal g c = subst IsLegal c.requires.text c.requires.can.legal

pub launch_ready-requires-clause-enough : goal.launch_ready-requires-clause-enough
launch_ready-requires-clause-enough g c = subst (λ (x : Dealing). workers_of x ≤ length c.args.devs.items) c.requires.text c.requires.can.devices.1

pub send_packets-outcome-requires-clause-sessions : goal.send_packets-outcome-requires-clause-sessions
send_packets-outcome-requires-clause-sessions g c = let l = c.in-Ok.ensures.launched in ap (λ (s : Stopped _). s.sessions) l.started.stopped ∙ l.table

pub send_packets-outcome-requires-clause-idle : goal.send_packets-outcome-requires-clause-idle
send_packets-outcome-requires-clause-idle g c = c.in-Ok.ensures.launched.started.pending

pub send_packets-outcome-requires-clause-stats : goal.send_packets-outcome-requires-clause-stats
send_packets-outcome-requires-clause-stats g c = c.in-Ok.ensures.launched.started.stats

pub send_packets-outcome-requires-clause-works : goal.send_packets-outcome-requires-clause-works
send_packets-outcome-requires-clause-works g c d follows lens some =
    let l = c.in-Ok.ensures.launched in
    never_idle _ 1024 c.in-Ok.running d l.started (omega arith)
    (unused g.D.Driver g.D.Device.limit g.met.D.Device.room_told c.args.task.now.plan c.args.text.now l.sessions c.args.devs.items l.mid l.ready) follows.1 lens some

pub returns-in-Err-clause-job : goal.returns-in-Err-clause-job
returns-in-Err-clause-job g c s_told k_told rs rest reads =
    let f = device_now g.D.Device.limit g.D.Driver.sessions g.D.Driver.held g.D.Driver.room g.D.Driver.stalls g.D.Driver.stats g.D.Driver.log in
    let devs = c.args.devs.items in
    let within = subst (λ (x : Dealing). workers_of x ≤ length devs) c.requires.text c.requires.can.devices.1 in
    wanting_back f c.args.task.now.plan c.args.task.now.burst c.args.task.now.dealing (Scheduled c.args.text.now) c.requires.text c.args.header.now rs rest c.without_packets.result
    (g.K.Sink.written c.args.out.now) devs c.in-Err.devs.items c.in-Err.ensures.wanting within c.without_packets.ensures

pub returns-in-Err-clause-count : goal.returns-in-Err-clause-count
returns-in-Err-clause-count g c = c.in-Err.ensures.wanting.count

pub returns-in-Err-clause-others : goal.returns-in-Err-clause-others
returns-in-Err-clause-others g c =
    let w = c.in-Err.ensures.wanting in
    further_behind w.n c.args.text.now.workers c.in-Err.devs.items c.args.devs.items w.few w.others

pub returns-clause-job : goal.returns-clause-job
returns-clause-job g c s_told k_told rs rest reads =
    let m = g.D.Driver in
    let f = device_now g.D.Device.limit g.D.Driver.sessions g.D.Driver.held g.D.Driver.room g.D.Driver.stalls g.D.Driver.stats g.D.Driver.log in
    let task = c.args.task.now in
    let text = c.args.text.now in
    let devs = c.args.devs.items in
    let l = c.in-Ok.ensures.launched in
    let last = c.send_packets-outcome.new.dev in
    let used = subst (λ (x : Dealing). (1 ≤ workers_of x) × (workers_of x ≤ length devs)) c.requires.text c.requires.can.devices in
    let sent = c.send_packets-outcome.ensures in
    let d = sent.driven s_told k_told rs rest reads in
    let ops = entries_from task.plan 0 rs in
    let serves = dealt_served m g.D.Device.limit g.met.D.Device.room_told g.met.D.Device.keeps_depth task.plan task.burst text l.sessions devs l.mid c.in-Ok.running last
    used.1 l.count l.ready l.started sent.follows.1 ops c.send_packets-outcome.result.ending d.0 _ _ _ d.2 d.1
    (entries_from-numbered task.plan 0 rs) c.requires.can.burst.0 c.requires.can.burst.1 used.0 in
    let whole = dealt_whole m g.D.Device.limit g.met.D.Device.room_told g.met.D.Device.keeps_depth task.plan task.burst text l.sessions devs l.mid c.in-Ok.running last
    used.1 l.count l.ready l.started sent.follows.1 ops c.send_packets-outcome.result.ending d.0 _ _ _ d.2 d.1
    (entries_from-numbered task.plan 0 rs) c.requires.can.burst.0 c.requires.can.burst.1 used.0 in
    let old = g.K.Sink.written c.args.out.now in
    let new = g.K.Sink.written c.send_packets-outcome.new.out in
    let back = (pool_of last).devs.items in
    let job = served_by task.plan task.burst task.dealing (Scheduled text) c.requires.text c.args.header.now rs rest c.send_packets-outcome.result old new
    (λ n. drop n back ≡ drop n devs) (map f devs) (map f back) (sent.wrote s_told k_told rs rest reads) sent.header sent.devices serves whole in
    let same = c.release.ensures ∙ ap (λ (x : Stopped _). x.devs) c.break_up.ensures.stopped in
    subst (λ (ds : List _). Job (Begins (settings_of task)) (Holds c.args.header.now rs rest) c.send_packets-outcome.result old new (λ n. drop n ds ≡ drop n devs) (map f devs) (map f ds))
    (sym same) job

pub returns-clause-count : goal.returns-clause-count
returns-clause-count g c =
    let l = c.in-Ok.ensures.launched in
    let within : c.args.text.now.workers ≤ length c.args.devs.items = subst (λ (x : Dealing). workers_of x ≤ length c.args.devs.items) c.requires.text c.requires.can.devices.1 in
    ap length (c.release.ensures ∙ ap (λ (x : Stopped _). x.devs) c.break_up.ensures.stopped)
    ∙ same_count g.D.Driver g.D.Device.limit g.met.D.Device.room_told g.met.D.Device.keeps_depth c.args.task.now.plan c.args.task.now.burst c.args.text.now l.sessions c.args.devs.items l.mid c.in-Ok.running
    c.send_packets-outcome.new.dev within l.count l.ready l.started c.send_packets-outcome.ensures.follows.1

pub returns-clause-others : goal.returns-clause-others
returns-clause-others g c =
    let l = c.in-Ok.ensures.launched in
    let within : c.args.text.now.workers ≤ length c.args.devs.items = subst (λ (x : Dealing). workers_of x ≤ length c.args.devs.items) c.requires.text c.requires.can.devices.1 in
    ap (drop c.args.text.now.workers) (c.release.ensures ∙ ap (λ (x : Stopped _). x.devs) c.break_up.ensures.stopped)
    ∙ dealt_others g.D.Driver g.D.Device.limit g.met.D.Device.room_told g.met.D.Device.keeps_depth c.args.task.now.plan c.args.task.now.burst c.args.text.now l.sessions c.args.devs.items l.mid c.in-Ok.running
    c.send_packets-outcome.new.dev within l.count l.ready l.started c.send_packets-outcome.ensures.follows.1 l.others

pub returns-clause-stalled : goal.returns-clause-stalled
returns-clause-stalled g c ending =
    let f = device_now g.D.Device.limit g.D.Driver.sessions g.D.Driver.held g.D.Driver.room g.D.Driver.stalls g.D.Driver.stats g.D.Driver.log in
    let text = c.args.text.now in
    let devs = c.args.devs.items in
    let l = c.in-Ok.ensures.launched in
    let within : text.workers ≤ length devs = subst (λ (x : Dealing). workers_of x ≤ length devs) c.requires.text c.requires.can.devices.1 in
    let out = dealt_stalled g.D.Driver g.D.Device.limit g.met.D.Device.room_told g.met.D.Device.keeps_depth c.args.task.now.plan c.args.task.now.burst text l.sessions devs l.mid
    c.in-Ok.running c.send_packets-outcome.new.dev within l.count l.ready l.started c.send_packets-outcome.ensures.follows.1 (c.send_packets-outcome.ensures.stalled ending) in
    let same = c.release.ensures ∙ ap (λ (x : Stopped _). x.devs) c.break_up.ensures.stopped in
    subst (λ (ds : List _). HaveStalledOut text.workers (map f devs) (map f ds)) (sym same) out
