use Rattle.aes_core.proofs.InverseStates.{shifted}
use Rattle.aes_core.proofs.decryption.steps.inverse_shift_rows.Goals as goal

pub returns : goal.returns
returns c = shifted c.args.state c.fits-state.0
