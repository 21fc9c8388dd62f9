use Rattle.std.proofs.Common.{◌≡◌, length, ap, arith}
use Rattle.cnf_clauses.specs.Rows.{rows_of}
use Rattle.cnf_clauses.proofs.RowsLemmas.{length-rows_of}
use Rattle.cnf_clauses.proofs.rows.Rows.len.Goals as goal

pub returns : goal.returns
returns g c =
    let seen : length (rows_of c.self.inside.items.items c.self.inside.ends.items) ≡ length c.args.self.now = ap length c.self.view_is in
    omega (arith, c.len.ensures, length-rows_of c.self.inside.items.items c.self.inside.ends.items, seen, c.self.inside.ends.ok.0)
