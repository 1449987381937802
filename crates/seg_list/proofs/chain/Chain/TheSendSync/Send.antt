use denote.RattleType.{RattleType}
use denote.Param.Send.{IsSend}
use Rattle.seg_list.proofs.Crosses.{Chain-send}
use Rattle.seg_list.specs.contracts.chain.Chain.{the_row}

pub send : (T : RattleType) → IsSend T → IsSend (the_row T)
send = Chain-send
