use Rattle.std.proofs.Common.{◌∙◌}
use Rattle.merge_table.proofs.Tables.{range_next}
use Rattle.merge_table.proofs.table.places.Goals as goal

pub loop-i-preserved : goal.loop-i-preserved
loop-i-preserved c = c.in_ok-push.ensures.items ∙ rw c.loop-i.invariant (range_next c.loop-i.i)
