use Rattle.std.proofs.Common.{refl}
use Rattle.gcm_core.proofs.HashedText.{hashed_none}
use Rattle.gcm_core.proofs.hash.Ghash.new.Goals as goal

pub returns : goal.returns
returns c = hashed_none _ refl refl
