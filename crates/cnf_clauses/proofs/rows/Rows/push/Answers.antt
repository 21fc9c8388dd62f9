use Rattle.std.proofs.Common.{◌≡◌, ◌+◌, length, ap, arith}
use Rattle.std.proofs.lemmas.List.{length-append}
use Rattle.cnf_clauses.proofs.RowsLemmas.{rows_of-push, AreRows-push}
use Rattle.cnf_clauses.proofs.rows.Rows.push.Goals as goal

pub returns-in-Ok-clause-ok : goal.returns-in-Ok-clause-ok
returns-in-Ok-clause-ok g c =
    rw (c.in_ok-extend_from_slice.ensures.items, c.in-Ok.ensures.items, ← c.self.view_is) (rows_of-push c.self.inside.items.items c.args.row.now c.self.inside.ends.items c.len-end.result c.self.invariant (omega (arith, length-append c.self.inside.items.items c.args.row.now, ap length c.in_ok-extend_from_slice.ensures.items)))

pub invariant_of-self-in-Ok : goal.invariant_of-self-in-Ok
invariant_of-self-in-Ok g c =
    let sum : c.len-end.result ≡ length c.self.inside.items.items + length c.args.row.now = omega (arith, c.len-end.ensures, length-append c.self.inside.items.items c.args.row.now, ap length c.in_ok-extend_from_slice.ensures.items) in
    rw (c.in_ok-extend_from_slice.ensures.items, c.in-Ok.ensures.items)
    (AreRows-push c.self.inside.items.items c.args.row.now c.self.inside.ends.items c.len-end.result c.self.invariant sum (omega (arith, c.if-row-had.false, c.self.invariant.few, c.len-had.ensures)))
