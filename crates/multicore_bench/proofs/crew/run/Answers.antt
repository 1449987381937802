use denote.Exit.{yes}
use denote.Param.Send.{arg_send, param_send, sendable, shr_send}
use Rattle.std.proofs.Crossing.{crosses}
use Rattle.multicore_bench.proofs.Crosses.{captured_send, owner_send, signs_sync}
use Rattle.multicore_bench.proofs.crew.run.Goals as goal

pub join-owner-requires-send-F : goal.join-owner-requires-send-F
join-owner-requires-send-F g c =
    let shared = c.type_bounds.sync-R in
    λ κs lives. param_send 1 _ (arg_send _ yes _ (captured_send _ _ _ _ (shr_send _ _ _ shared) owner_send (shr_send _ _ _ signs_sync)))

pub join-owner-requires-send-A : goal.join-owner-requires-send-A
join-owner-requires-send-A g c = search (sendable, crosses, owner_send) depth 24 fits 30000
