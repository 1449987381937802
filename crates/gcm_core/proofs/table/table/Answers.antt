use Rattle.std.proofs.Common.{◌∙◌, ap, refl, sym, arith}
use Rattle.std.proofs.lemmas.List.{length-set}
use Rattle.crypto_model.specs.Gcm.{times_x}
use Rattle.gcm_core.proofs.NibbleProducts.{four_more, row_written, times_power-zero}
use Rattle.gcm_core.proofs.table.table.Goals as goal

pub loop-r-init : goal.loop-r-init
loop-r-init c = record { long = refl; power = sym (times_power-zero _); rows = λ r below. absurd (omega arith) }

pub loop-r-preserved : goal.loop-r-preserved
loop-r-preserved c =
    let before = c.loop-r.invariant in
    let next = c.times_x-v.ensures ∙ ap times_x (c.times_x-in-loop-r-2.ensures ∙ ap times_x (c.times_x-in-loop-r.ensures ∙ ap times_x c.times_x.ensures)) in
    record {
      long = length-set _ _ _ ∙ before.long;
      power = four_more c.loop-r.r c.loop-r.v _ _ before.power next;
      rows = row_written c.loop-r.table c.row.result c.loop-r.r _ (omega arith) before.rows (rw (← before.power) c.row.ensures);
    }
