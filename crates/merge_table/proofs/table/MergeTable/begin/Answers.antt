use Rattle.std.proofs.Common.{arith}
use Rattle.merge_table.proofs.Tables.{flat_range, counted_range, range_keeps, range_classes}
use Rattle.merge_table.proofs.table.MergeTable.begin.Goals as goal

pub invariant_of-result : goal.invariant_of-result
invariant_of-result c = rw (c.in_ok-retained.ensures, c.in_ok-lasts.ensures) (flat_range c.args.n, counted_range c.args.n _ (omega arith) c.in_ok-counts.ensures)

pub returns-clause-keeps : goal.returns-clause-keeps
returns-clause-keeps c = λ g e. rw c.in_ok-retained.ensures (range_keeps g c.args.n e)

pub returns-clause-classes : goal.returns-clause-classes
returns-clause-classes c = rw c.in_ok-retained.ensures (range_classes c.args.n)
