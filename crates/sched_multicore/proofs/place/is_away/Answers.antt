use Rattle.std.proofs.Common.{◌≡◌, sym, ap, ◌∙◌, Some}
use Rattle.sched_multicore.specs.declared.place.Place.TheVariants.{Away}
use Rattle.sched_multicore.proofs.Lists.{get_index}
use Rattle.sched_multicore.proofs.place.is_away.Goals as goal

pub returns-in-Away-clause-yes : goal.returns-in-Away-clause-yes
returns-in-Away-clause-yes g c _ =
    (c.in-Away.field-0, get_index c.args.places.now.items c.args.i c.index.result.now c.requires ∙ ap (λ x. Some x) (sym c.index.ensures ∙ c.in-Away.is))

pub returns-in_default : goal.returns-in_default
returns-in_default g c = record {
  yes = λ e. absurd (cc);
  none = λ _ t e.
      let s : c.index.result.now ≡ Away t = let z = sym (get_index c.args.places.now.items c.args.i c.index.result.now c.requires) ∙ e in c.index.ensures ∙ (cc) in
      c.in_default.not-Away t s;
}
