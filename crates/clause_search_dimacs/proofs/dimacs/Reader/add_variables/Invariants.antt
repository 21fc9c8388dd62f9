use Rattle.std.proofs.Common.{◌≡◌, ◌+◌}
use Rattle.clause_search_dimacs.proofs.dimacs.Reader.add_variables.Given as goal

abbrev pub invariant-loop-i : goal.invariant-loop-i
invariant-loop-i l = record {
  variables : l.self-inside.formula.variables ≡ l.initial.self-inside.formula.variables + l.i;
  clauses : l.self-inside.formula.clauses ≡ l.initial.self-inside.formula.clauses;
  clause : l.self-inside.clause.items ≡ l.initial.self-inside.clause.items;
}
