use Rattle.std.proofs.Common.{arith}
use Rattle.std.proofs.lemmas.List.FromFn.{length-range_with_len}
use Rattle.merge_table.proofs.Tables.{at_range}
use Rattle.dag_view.proofs.retains.ApartRetains.retained_by.Goals as goal

pub returns : goal.returns
returns c = at_range c.args.self.now.nodes c.args.n (omega (arith, c.requires, length-range_with_len 0 c.args.self.now.nodes))
