use Rattle.std.proofs.Common.{refl}
use Rattle.cnf_clauses.specs.Rows.{rows_of}
use Rattle.cnf_clauses.proofs.rows.Rows.new.Goals as goal

pub returns : goal.returns
unfolding rows_of
returns g c = rw (c.new.ensures.items, c.new-2.ensures.items) refl
