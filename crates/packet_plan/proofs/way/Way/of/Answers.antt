use Rattle.std.proofs.Common.{◌+◌, ◌≤◌, arith}
use Rattle.packet_plan.proofs.Ways.{one_or_two, two_sizes, way_of-two}
use Rattle.packet_plan.proofs.way.Way.of.Goals as goal

pub and-requires : goal.and-requires
and-requires c =
    let few : c.alone-in-len2.result.digest_len + c.alone-in-len2-2.result.digest_len ≤ 64 =
    two_sizes c.args.xforms.now c.first-item.result c.second-item.result _ _ c.requires (omega arith) c.first-item.is c.second-item.is c.alone-in-len2.ensures c.alone-in-len2-2.ensures in
    omega arith

pub unreachable-requires : goal.unreachable-requires
unreachable-requires c = let few = one_or_two c.args.xforms.now c.requires in grind (arith, few)

pub returns-in-len2 : goal.returns-in-len2
returns-in-len2 c =
    let e = c.and.ensures in
    way_of-two c.args.xforms.now c.first-item.result c.second-item.result c.and.result _ _ (omega arith) c.first-item.is c.second-item.is c.alone-in-len2.ensures c.alone-in-len2-2.ensures
    (record { inward = e.inward; digest_len = e.digest_len; crypts = e.crypts; code = e.code; aead = e.aead })
