use Rattle.std.proofs.Common.{◌∙◌, ap, subst}
use Rattle.crypto_model.specs.Gcm.{bits_of}
use Rattle.gcm_core.specs.Tables.{IsTable}
use Rattle.gcm_core.specs.Subkey.{subkey}
use Rattle.gcm_core.proofs.key.GcmKey.new.Goals as goal

pub invariant_of-result : goal.invariant_of-result
unfolding subkey
invariant_of-result c = subst (λ h. IsTable h c.table.result) (c.number.ensures ∙ ap bits_of c.encrypt.ensures) c.table.ensures
