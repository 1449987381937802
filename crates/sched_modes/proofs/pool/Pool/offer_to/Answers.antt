use Rattle.std.proofs.Common.{◌∙◌, arith}
use Rattle.std.specs.Arc.{arc_value}
use Rattle.sched_modes.proofs.Ahead.{fits_kept}
use Rattle.sched_modes.proofs.pool.Pool.offer_to.Goals as goal

pub invariant_of-self : goal.invariant_of-self
invariant_of-self g c =
    let p = c.args.self.now in
    record {
      sizes = (p.sizes.0, omega (arith, p.sizes.1, c.offer.ensures.len), p.sizes.2);
      alike = λ k d lt. (c.offer.ensures.serves.each k d).sessions ∙ p.alike k d lt;
      sound = c.offer.ensures.sound;
      answered = c.offer.ensures.answered (arc_value p.sessions) p.answered;
      empty = p.empty;
      fits = fits_kept p.ring c.offer.new.ring p.scratch.cap c.offer.ensures.cap p.fits;
    }
