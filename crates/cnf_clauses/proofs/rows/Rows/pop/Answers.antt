use Rattle.std.proofs.Common.{◌≡◌, ◌+◌, ◌-◌, ℕ, length, ap, arith}
use Rattle.cnf_clauses.proofs.RowsLemmas.{rows_of-pop, AreRows-pop, length-rows_of}
use Rattle.cnf_clauses.proofs.rows.Rows.pop.Goals as goal

pub overflow_sub-last : goal.overflow_sub-last
overflow_sub-last g c =
    omega (arith, c.len-last.ensures, length-rows_of c.self.inside.items.items c.self.inside.ends.items, ap length c.self.view_is, c.requires)

pub invariant_of-self : goal.invariant_of-self
invariant_of-self g c =
    let xs = c.self.inside.items.items in
    let es = c.self.inside.ends.items in
    let n : ℕ = c.len-last.result - 1 in
    let last : n + 1 ≡ length es = omega (arith, c.len-last.ensures, length-rows_of xs es, ap length c.self.view_is, c.requires) in
    rw (c.truncate.ensures.items, c.truncate-2.ensures.items, c.start-begin.ensures, c.deref.ensures.value) (AreRows-pop xs es n c.self.invariant last)

pub returns : goal.returns
returns g c =
    let xs = c.self.inside.items.items in
    let es = c.self.inside.ends.items in
    let n : ℕ = c.len-last.result - 1 in
    let last : n + 1 ≡ length es = omega (arith, c.len-last.ensures, length-rows_of xs es, ap length c.self.view_is, c.requires) in
    let count : n ≡ length c.args.self.now - 1 = omega (arith, last, length-rows_of xs es, ap length c.self.view_is) in
    rw (c.truncate.ensures.items, c.truncate-2.ensures.items, c.start-begin.ensures, c.deref.ensures.value, ← count, ← c.self.view_is) (rows_of-pop xs es n c.self.invariant last)
