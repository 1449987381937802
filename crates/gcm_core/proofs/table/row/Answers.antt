use Rattle.gcm_core.proofs.NibbleProducts.{is_row}
use Rattle.gcm_core.proofs.table.row.Goals as goal

pub returns : goal.returns
returns c = is_row c.args.v c.times_x-e4.result c.times_x-e2.result c.times_x-e1.result c.times_x-e4.ensures c.times_x-e2.ensures c.times_x-e1.ensures
