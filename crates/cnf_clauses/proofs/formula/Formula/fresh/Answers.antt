use Rattle.std.proofs.Common.{arith, ap}
use Rattle.cnf_clauses.specs.Formula.{Cnf}
use Rattle.cnf_clauses.proofs.formula.Formula.fresh.Goals as goal

pub invariant_of-self : goal.invariant_of-self
invariant_of-self c =
    let same = ap (λ (f : Cnf). f.variables) c.self.view_is in
    record { few = c.self.invariant.few; small = omega (arith, same, c.requires); over = λ k h l m. omega (arith, c.self.invariant.over k h l m) }
