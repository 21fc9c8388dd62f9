-- Lines that are new, and what they are learnt from.
use Rattle.std.specs.Prelude.{◌≡◌, ℕ, ◌++◌, ◌∷◌, List, [], length}
use Rattle.cnf_clauses.specs.Literal.{Literal}
use Rattle.cnf_clauses.specs.declared.lit.ClauseId.{ClauseId}
use Rattle.clause_log.specs.Resolution.{IsNew, clause_at}
use Rattle.clause_log.specs.Line.{Line}
use Rattle.clause_log.specs.Log.{all_clauses}
use Rattle.clause_search.specs.Learnt.{IsAsserting}

-- one line more, which is new
pub record AddsNew (fs : List (List Literal)) (old new : List Line) : Type 0 where
  pub line : Line
  pub items : new ≡ old ++ line ∷ []
  pub is_new : IsNew (all_clauses fs old) line.clause

-- the last of the new clauses, which is one more than the old ones, is asserting
pub record IsTaught (old new : List (List Literal)) (path : List Literal) (b : ℕ) (id : ClauseId) (u : Literal) : Type 0 where
  pub id_is : id.0 ≡ length old
  pub clauses : new ≡ old ++ clause_at new id ∷ []
  pub asserting : IsAsserting path b (clause_at new id) u
