use Rattle.std.proofs.Common.{◌≡◌, ◌≤◌}
use Rattle.clause_search_dimacs.proofs.dimacs.Reader.read_head.Given as goal

abbrev pub invariant-loop-word : goal.invariant-loop-word
invariant-loop-word l = record {
  as_many : l.initial.self.formula.variables ≤ l.self.formula.variables;
  clauses : l.self.formula.clauses ≡ l.initial.self.formula.clauses;
  clause : l.self.clause ≡ l.initial.self.clause;
}
