use Rattle.std.proofs.Common.{◌≡◌, ◌+◌, ◌-◌, [], length, drop, take, refl, arith, length-take, length-drop}
use Rattle.gcm_core.proofs.FedPieces.{feeds_both, feeds_none, upto_more}
use Rattle.gcm_core.proofs.stream.KeyStream.feed.Goals as goal

pub loop-at-init : goal.loop-at-init
loop-at-init c = record { rest = refl; fed = feeds_none c.args.self.now }

pub loop-at-preserved : goal.loop-at-preserved
loop-at-preserved c =
    let now = c.loop-at.piece in
    let at = c.loop-at.at in
    let end = at + c.min-size.result in
    let k = end - at in
    let part = take k (drop at now) in
    let out = c.feed_part.new.part in
    let long : length part ≡ k = omega (arith, length-take k (drop at now), length-drop at now, c.min-size.ensures) in
    upto_more c.args.self.now c.loop-at.self c.feed_part.new.self c.args.piece.now now out at end k c.loop-at.invariant (omega arith) (omega (arith, c.min-size.ensures))
    (omega (arith, c.feed_part.auto.part, long))
    (feeds_both c.loop-at.self c.go_round.new.self c.feed_part.new.self [] part [] out c.go_round.ensures.fed c.feed_part.ensures)
