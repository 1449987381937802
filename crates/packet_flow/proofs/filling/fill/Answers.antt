use Rattle.std.proofs.Common.{inl, refl, arith}
use Rattle.std.proofs.lemmas.Result.{err_from_is_err_and}
use Rattle.packet_flow.proofs.Begun.{if_err_is, outside_is}
use Rattle.packet_flow.proofs.filling.fill.Goals as goal

pub loop-passage-init : goal.loop-passage-init
loop-passage-init g c = record {
  underway = λ b o big left wrote u. outside_is c.args.plan.now b g.S.Source.tells g.K.Sink.tells c.args.passage.now o (g.S.Source.left c.args.src.now) (g.K.Sink.written c.args.out.now) left wrote u;
  read_later = omega arith;
  write_later = omega arith;
  write_steady = λ steady. refl;
}

pub advance-requires-clause-underway : goal.advance-requires-clause-underway
advance-requires-clause-underway g c =
    let r = c.requires.underway in
    (r.0, record r.1 { left = g.S.Source.left c.loop-passage.src; written = g.K.Sink.written c.loop-passage.out }, r.2, refl, refl, c.loop-passage.invariant.underway r.0 r.1 r.2 r.3 r.4 r.5)

pub returns-in_err-advance-clause-ends : goal.returns-in_err-advance-clause-ends
returns-in_err-advance-clause-ends g c b o big left wrote u =
    if_err_is c.from_residual.result _ c.in_err-advance.field-0.0 (err_from_is_err_and c.from_residual.result c.from_residual.ensures.1)
    (c.in_err-advance.ensures.ends b (record o { left = g.S.Source.left c.loop-passage.src; written = g.K.Sink.written c.loop-passage.out }) big refl refl (c.loop-passage.invariant.underway b o big left wrote u))

pub returns-after-loop-passage-clause-full : goal.returns-after-loop-passage-clause-full
returns-after-loop-passage-clause-full g c =
    let r = c.requires.underway in
    let u = c.loop-passage.invariant.underway r.0 r.1 r.2 r.3 r.4 r.5 in
    inl (omega (arith, u.sizes.0, u.sizes.2, c.room.ensures))
