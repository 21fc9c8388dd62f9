use Rattle.std.proofs.Common.{◌≡◌}
use Rattle.clause_search_dimacs.specs.Dimacs.{Grows}
use Rattle.clause_search_dimacs.proofs.dimacs.Reader.read_literals.Given as goal

abbrev pub invariant-loop-word : goal.invariant-loop-word
invariant-loop-word l = record {
  grows : Grows l.initial.self.formula l.self.formula;
  variables : l.self.formula.variables ≡ l.initial.self.formula.variables;
}
