use Rattle.std.proofs.Common.{◌≤◌, ◌+◌, ◌-◌, length, drop, refl, arith, length-take, length-drop}
use Rattle.aes_modes.proofs.Pieces.{feeds_none, upto_more}
use Rattle.aes_modes.proofs.ctr.Ctr.feed_sixteens.Goals as goal

pub loop-at-init : goal.loop-at-init
loop-at-init c = (refl, record { rest = refl; used_up = c.requires.used_up; fed = feeds_none c.args.self.now })

pub loop-at-preserved : goal.loop-at-preserved
loop-at-preserved c =
    let now = c.loop-at.piece in
    let at = c.loop-at.at in
    let k = at + 256 - at in
    let room : at + 256 ≤ length now = omega (arith, c.loop-at.invariant.0, c.requires.whole) in (
      omega (arith, c.loop-at.invariant.0),
      upto_more c.args.self.now c.loop-at.self _ c.args.piece.now now c.feed_sixteen.new.group at (at + 256) k c.loop-at.invariant.1 (omega arith) room (omega arith)
          (omega (arith, c.feed_sixteen.auto.group, length-take k (drop at now), length-drop at now)) c.feed_sixteen.ensures.used_up c.feed_sixteen.ensures.fed,
    )
