use Rattle.clause_search_dimacs.proofs.Over.{is_test}
use Rattle.clause_search_dimacs.proofs.dimacs.is_over.Goals as goal

pub returns-clause-value : goal.returns-clause-value
returns-clause-value c = is_test c.args.formula.now.variables c.args.clause.now _ c.covers.ensures
