-- A packet may cross threads, since its chain may.
use denote.Param.Send.{IsSend, sendable}
use Rattle.std.proofs.Crossing.{crosses}
use Rattle.seg_list.proofs.chain.Chain.TheSendSync as chain
use Rattle.mbuf_chain.specs.contracts.mbuf.Mbuf as mbuf

pub mbuf_send : IsSend mbuf.the_row
mbuf_send = search (sendable, crosses, chain.the_send) depth 20
