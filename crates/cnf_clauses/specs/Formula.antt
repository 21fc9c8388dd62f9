-- Formulas in conjunctive normal form.
use Rattle.std.specs.Prelude.{ℕ, ◌<◌, ◌≤◌, ◌^◌, List, [], length, slice_index_or}
use Rattle.cnf_clauses.specs.Literal.{Literal}
use Rattle.cnf_clauses.specs.Clause.{HasVariablesBelow}

-- a number of variables, counted from 0, and a list of clauses
pub record Cnf : Type 0 where
  pub variables : ℕ
  pub clauses : List (List Literal)

-- the numbers fit their types, and each clause is over the variables
pub record IsFormula (variables : ℕ) (clauses : List (List Literal)) : Type 0 where
  pub few : length clauses < 2 ^ 32
  pub small : variables ≤ 2 ^ 31
  pub over : (k : ℕ) → k < length clauses → HasVariablesBelow variables (slice_index_or clauses k [])
