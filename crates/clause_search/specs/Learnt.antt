-- What the analysis of a conflict keeps and gives.
use Rattle.std.specs.Prelude.{◌≡◌, ℕ, ◌-◌, List, length, take, slice_index_or, Contains}
use Rattle.cnf_clauses.specs.Literal.{Literal}
use Rattle.cnf_clauses.specs.declared.lit.ClauseId.{ClauseId}
use Rattle.clause_log.specs.Resolution.{Step, first_places, clause_at, resolvents, StepsAreIn}
use Rattle.clause_search.specs.Path.{IsFalseIn, AllFalseIn, AllButFalseIn}

-- where the last level begins
abbrev pub last_start : List ℕ → ℕ
last_start starts = slice_index_or starts (length starts - 1) 0

-- the clause is the result of the steps, each literal once
pub record IsDerivedBy (db : List (List Literal)) (start : ClauseId) (c : List Literal) (steps : List Step) : Type 0 where
  pub value : c ≡ first_places (resolvents db (clause_at db start) steps)
  pub steps_in : StepsAreIn (length db) steps

-- all literals of the reason but the one that follows stand in the clause
abbrev pub IsCovered : List Literal → List Literal → Literal → Type 0
IsCovered c reason follows = (l : Literal) → Contains reason l → (l ≡ follows → ⊥) → Contains c l

-- the clause is false, with one literal whose variable was assigned at the level that begins at b
pub record IsAsserting (path : List Literal) (b : ℕ) (c : List Literal) (u : Literal) : Type 0 where
  pub holds_it : Contains c u
  pub is_false : IsFalseIn path u
  pub not_before : IsFalseIn (take b path) u → ⊥
  pub others : AllButFalseIn (take b path) u c

-- the clause is the result of the steps so far, and false by the first n literals of the path
pub record IsDerived (db : List (List Literal)) (start : ClauseId) (path : List Literal) (n : ℕ) (c : List Literal) (steps : List Step) : Type 0 where
  pub by : IsDerivedBy db start c steps
  pub all_false : AllFalseIn (take n path) c

-- the clause is the result of the steps, and asserting
pub record IsLearnt (db : List (List Literal)) (start : ClauseId) (path : List Literal) (b : ℕ) (c : List Literal) (steps : List Step) (u : Literal) : Type 0 where
  pub by : IsDerivedBy db start c steps
  pub asserting : IsAsserting path b c u
