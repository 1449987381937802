use Rattle.std.proofs.Common.{◌≡◌, drop, map}
use Rattle.sym_session.specs.Xform.{transform_of}
use Rattle.packet_plan.specs.Ready.{rule_of, salt_len}
use Rattle.packet_plan.proofs.iv.IvRule.of.Given as goal

abbrev pub invariant-loop-xform : goal.invariant-loop-xform
invariant-loop-xform l = record {
  rule : rule_of (map transform_of (drop l.xform-index l.xforms)) l.salt ≡ rule_of (map transform_of l.xforms) l.salt;
  salted : salt_len (map transform_of (drop l.xform-index l.xforms)) ≡ salt_len (map transform_of l.xforms);
}
