use Rattle.std.proofs.Common.{◌≡◌, true, refl, slice_index}
use Rattle.std.proofs.lemmas.Bool.{eqb-true}
use Rattle.std.specs.Prelude.{eqb}
use Rattle.crypto_model.specs.Field.{product, times, remainder}
use Rattle.crypto_model.specs.Aes.{power}
use Rattle.crypto_model.specs.declared.slow.TheConstants.{ROUND_CONSTANTS}
use Rattle.crypto_model.proofs.Computed.{all_below, all_below_at}
use Rattle.crypto_model.proofs.slow.power.Goals as goal

all_10 : all_below (λ n. eqb (slice_index ROUND_CONSTANTS n) (power n)) 10 ≡ true
unfolding all_below power product times remainder
all_10 = refl

pub returns : goal.returns
returns c = eqb-true _ _ (all_below_at (λ n. eqb (slice_index ROUND_CONSTANTS n) (power n)) 10 all_10 c.args.n c.requires)
