use Rattle.std.proofs.Common.{◌≡◌, ◌<◌, length, ap, sym, arith}
use Rattle.cnf_clauses.specs.Rows.{rows_of}
use Rattle.cnf_clauses.proofs.RowsLemmas.{length-rows_of, get_or-rows_of}
use Rattle.cnf_clauses.proofs.rows.Rows.row.Goals as goal

pub cut-requires-clause-inside : goal.cut-requires-clause-inside
cut-requires-clause-inside g c =
    let seen : length (rows_of c.self.inside.items.items c.self.inside.ends.items) ≡ length c.args.self.now = ap length c.self.view_is in
    omega (arith, length-rows_of c.self.inside.items.items c.self.inside.ends.items, seen, ap length c.deref-2.ensures.value, c.requires)

pub returns : goal.returns
returns g c =
    let seen : length (rows_of c.self.inside.items.items c.self.inside.ends.items) ≡ length c.args.self.now = ap length c.self.view_is in
    let inside : c.args.k < length c.self.inside.ends.items = omega (arith, length-rows_of c.self.inside.items.items c.self.inside.ends.items, seen, c.requires) in
    rw (c.cut.ensures, c.deref.ensures.value, c.deref-2.ensures.value, ← c.self.view_is) (sym (get_or-rows_of c.self.inside.items.items c.self.inside.ends.items c.args.k inside))
