use Rattle.std.proofs.Common.{take}
use Rattle.cnf_clauses.specs.Clause.{HasVariablesBelow}
use Rattle.cnf_clauses.proofs.formula.Formula.covers.Given as goal

abbrev pub invariant-loop-lit : goal.invariant-loop-lit
invariant-loop-lit l = HasVariablesBelow l.variables (take l.lit-index l.lits)
