use Rattle.std.proofs.Common.{None, ap, sym, subst, refl, ◌∙◌, arith}
use Rattle.dev_core.specs.declared.stats.Stats.{Stats}
use Rattle.packet_plan.specs.Asked.{sessions_of}
use Rattle.packet_flow.specs.Forwarding.{ForwardsAs}
use Rattle.packet_flow.specs.Passage.{before}
use Rattle.packet_flow.proofs.Forwards.{forwards_none, new_forwarding}
use Rattle.packet_flow.proofs.forwarding.forward.Goals as goal

pub returns-in_default-clause-ends : goal.returns-in_default-clause-ends
returns-in_default-clause-ends g c =
    let left = g.S.Source.left c.args.src.now in
    forwards_none c.args.plan.now (before c.args.header.now.big left (g.K.Sink.written c.args.out.now) None 32) g.S.Source.tells g.K.Sink.tells c.new.result left
    (g.D.Driver.stats c.args.dev).enqueued refl c.new.ensures (ap (λ (s : Stats). s.enqueued) c.requires.stats)

pub returns-in-Err-clause-ends : goal.returns-in-Err-clause-ends
returns-in-Err-clause-ends g c =
    let left = g.S.Source.left c.args.src.now in
    forwards_none c.args.plan.now (before c.args.header.now.big left (g.K.Sink.written c.args.out.now) None 32) g.S.Source.tells g.K.Sink.tells c.new.result left
    (g.D.Driver.stats c.in-Err.dev).enqueued refl c.new.ensures (ap (λ (d : _). (g.D.Driver.stats d).enqueued) c.in-Err.ensures.back ∙ ap (λ (s : Stats). s.enqueued) c.requires.stats)

pub run_all-end-requires-clause-forwarding : goal.run_all-end-requires-clause-forwarding
run_all-end-requires-clause-forwarding g c =
    let left = g.S.Source.left c.args.src.now in
    let wrote = g.K.Sink.written c.args.out.now in
    let b = before c.args.header.now.big left wrote None 32 in (
      b,
      c.args.dev,
      refl,
      new_forwarding g.D.Driver c.args.plan.now b g.S.Source.tells g.K.Sink.tells c.args.dev c.in-Ok.passage c.in-Ok-new.route left wrote refl refl refl refl c.in-Ok.ensures c.in-Ok-new.ensures.new
          c.requires.idle c.requires.stats c.requires.sessions c.requires.works (g.met.D.Driver.follows_itself _),
    )

pub into_device-requires : goal.into_device-requires
into_device-requires g c =
    let left = g.S.Source.left c.args.src.now in
    let wrote = g.K.Sink.written c.args.out.now in
    let b = before c.args.header.now.big left wrote None 32 in
    let over = c.run_all-end.ensures.over b c.args.dev refl
    (new_forwarding g.D.Driver c.args.plan.now b g.S.Source.tells g.K.Sink.tells c.args.dev c.in-Ok.passage c.in-Ok-new.route left wrote refl refl refl refl c.in-Ok.ensures c.in-Ok-new.ensures.new
    c.requires.idle c.requires.stats c.requires.sessions c.requires.works (g.met.D.Driver.follows_itself _)) in
    record { alone = (sessions_of c.args.plan.now, over.1.carries.serves) }

pub returns-clause-ends : goal.returns-clause-ends
returns-clause-ends g c =
    let left = g.S.Source.left c.args.src.now in
    let wrote = g.K.Sink.written c.args.out.now in
    let b = before c.args.header.now.big left wrote None 32 in
    let over = c.run_all-end.ensures.over b c.args.dev refl
    (new_forwarding g.D.Driver c.args.plan.now b g.S.Source.tells g.K.Sink.tells c.args.dev c.in-Ok.passage c.in-Ok-new.route left wrote refl refl refl refl c.in-Ok.ensures c.in-Ok-new.ensures.new
    c.requires.idle c.requires.stats c.requires.sessions c.requires.works (g.met.D.Driver.follows_itself _)) in
    subst (λ (d : g.row.D.Denot). ForwardsAs c.args.plan.now b g.S.Source.tells g.K.Sink.tells c.run_all-end.result c.run_all-end.new.passage.counts (g.K.Sink.written c.run_all-end.new.out) (g.D.Driver.stats d).enqueued)
    (sym (c.into_device.ensures (sessions_of c.args.plan.now) over.1.carries.serves)) over.1.ends

pub returns-clause-stalled : goal.returns-clause-stalled
returns-clause-stalled g c is =
    let left = g.S.Source.left c.args.src.now in
    let wrote = g.K.Sink.written c.args.out.now in
    let b = before c.args.header.now.big left wrote None 32 in
    let over = c.run_all-end.ensures.over b c.args.dev refl
    (new_forwarding g.D.Driver c.args.plan.now b g.S.Source.tells g.K.Sink.tells c.args.dev c.in-Ok.passage c.in-Ok-new.route left wrote refl refl refl refl c.in-Ok.ensures c.in-Ok-new.ensures.new
    c.requires.idle c.requires.stats c.requires.sessions c.requires.works (g.met.D.Driver.follows_itself _)) in
    let same = c.into_device.ensures (sessions_of c.args.plan.now) over.1.carries.serves in
    omega (arith, over.1.patience is, over.1.carries.stalls, ap g.D.Driver.stalls same, ap (λ (d : g.row.D.Denot). (g.D.Driver.stats d).enqueued) same)

pub returns-clause-stalls : goal.returns-clause-stalls
returns-clause-stalls g c =
    let left = g.S.Source.left c.args.src.now in
    let wrote = g.K.Sink.written c.args.out.now in
    let b = before c.args.header.now.big left wrote None 32 in
    let over = c.run_all-end.ensures.over b c.args.dev refl
    (new_forwarding g.D.Driver c.args.plan.now b g.S.Source.tells g.K.Sink.tells c.args.dev c.in-Ok.passage c.in-Ok-new.route left wrote refl refl refl refl c.in-Ok.ensures c.in-Ok-new.ensures.new
    c.requires.idle c.requires.stats c.requires.sessions c.requires.works (g.met.D.Driver.follows_itself _)) in
    omega (arith, over.1.carries.later, ap g.D.Driver.stalls (c.into_device.ensures (sessions_of c.args.plan.now) over.1.carries.serves))

pub returns-clause-sessions : goal.returns-clause-sessions
returns-clause-sessions g c =
    let left = g.S.Source.left c.args.src.now in
    let wrote = g.K.Sink.written c.args.out.now in
    let b = before c.args.header.now.big left wrote None 32 in
    let over = c.run_all-end.ensures.over b c.args.dev refl
    (new_forwarding g.D.Driver c.args.plan.now b g.S.Source.tells g.K.Sink.tells c.args.dev c.in-Ok.passage c.in-Ok-new.route left wrote refl refl refl refl c.in-Ok.ensures c.in-Ok-new.ensures.new
    c.requires.idle c.requires.stats c.requires.sessions c.requires.works (g.met.D.Driver.follows_itself _)) in
    ap g.D.Driver.sessions (c.into_device.ensures (sessions_of c.args.plan.now) over.1.carries.serves) ∙ over.1.carries.serves.table ∙ sym c.requires.sessions

pub returns-clause-follows : goal.returns-clause-follows
returns-clause-follows g c =
    let left = g.S.Source.left c.args.src.now in
    let wrote = g.K.Sink.written c.args.out.now in
    let b = before c.args.header.now.big left wrote None 32 in
    let over = c.run_all-end.ensures.over b c.args.dev refl
    (new_forwarding g.D.Driver c.args.plan.now b g.S.Source.tells g.K.Sink.tells c.args.dev c.in-Ok.passage c.in-Ok-new.route left wrote refl refl refl refl c.in-Ok.ensures c.in-Ok-new.ensures.new
    c.requires.idle c.requires.stats c.requires.sessions c.requires.works (g.met.D.Driver.follows_itself _)) in
    subst (g.D.Driver.follows c.args.dev) (sym (c.into_device.ensures (sessions_of c.args.plan.now) over.1.carries.serves)) over.1.carries.follows
