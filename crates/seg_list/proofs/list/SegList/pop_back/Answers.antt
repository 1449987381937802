use Rattle.std.proofs.Common.{length, ap, ◌∙◌}
use Rattle.seg_list.proofs.LastTaken.{last_taken}
use Rattle.seg_list.proofs.list.SegList.pop_back.Goals as goal

pub returns-clause-last : goal.returns-clause-last
returns-clause-last c =
    last_taken c.split.inside.len c.args.self.now c.swap.new.x c.swap.new.y c.take_seg.result c.take_seg.new.self (c.split.invariant.0 ∙ ap length c.split.view_is)
    (c.swap.ensures.x_after ∙ c.split-last.ensures.front) (c.swap.ensures.y_after ∙ c.split-last.ensures.behind) c.take_seg.ensures
