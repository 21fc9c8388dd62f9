use Rattle.std.proofs.Common.{refl}
use Rattle.cnf_clauses.specs.Rows.{row_at}
use Rattle.cnf_clauses.proofs.rows.cut.Goals as goal

pub returns : goal.returns
unfolding row_at
returns g c = rw c.start-begin.ensures refl
