use Rattle.spec_reader.proofs.Freshness.{one_is_distinct}
use Rattle.spec_reader.proofs.names.are_distinct.Goals as goal

pub returns-in-len1 : goal.returns-in-len1
returns-in-len1 c = one_is_distinct c.args.names.now c.in-len1.len_at_least c.in-len1.len_below
