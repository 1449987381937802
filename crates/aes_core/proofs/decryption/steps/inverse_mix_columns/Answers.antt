use Rattle.aes_core.proofs.InverseBytes.{elevens, thirteens, fourteens}
use Rattle.aes_core.proofs.InverseStates.{mixed}
use Rattle.aes_core.proofs.decryption.steps.inverse_mix_columns.Goals as goal

pub returns : goal.returns
returns c =
    let s = c.args.state in
    let fits = c.fits-state.1 in
    let is_eleven = elevens s _ _ fits c.times_9-nine.ensures c.times_2-two.ensures in
    let is_thirteen = thirteens s _ _ fits c.times_9-nine.ensures c.times_4.ensures in
    let is_fourteen = fourteens s _ _ fits is_thirteen c.times_2-two.ensures in
    mixed s _ _ _ _ c.fits-state.0 is_fourteen is_eleven is_thirteen c.times_9-nine.ensures
