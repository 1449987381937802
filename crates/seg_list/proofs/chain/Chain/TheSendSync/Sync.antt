use denote.RattleType.{RattleType}
use denote.Param.Send.{IsSync}
use Rattle.seg_list.proofs.Crosses.{Chain-sync}
use Rattle.seg_list.specs.contracts.chain.Chain.{the_row}

pub sync : (T : RattleType) → IsSync T → IsSync (the_row T)
sync = Chain-sync
