use Rattle.std.proofs.Common.{length, drop, ap, ◌∙◌}
use Rattle.std.proofs.Math.Seq.{drop-append_seam}
use Rattle.std.proofs.lemmas.List.{drop-replicate}
use Rattle.hmac_core.proofs.tag.MacTag.new.Goals as goal

pub returns-clause-zeros : goal.returns-clause-zeros
returns-clause-zeros c =
    ap (drop (length c.args.digest.now)) c.put.ensures ∙ drop-append_seam c.args.digest.now _ ∙ drop-replicate (length c.args.digest.now) 64 0
