-- Lines of a log.
use Rattle.std.specs.Prelude.{◌≡◌, ◌<◌, List, [], ◌∷◌, length}
use Rattle.cnf_clauses.specs.Literal.{Literal}
use Rattle.cnf_clauses.specs.declared.lit.ClauseId.{ClauseId}
use Rattle.clause_log.specs.Resolution.{Step, clause_at, resolvents, StepsAreIn}

-- the clause that a line begins with, the steps of resolution, and what comes of them
pub record Line : Type 0 where
  pub start : ClauseId
  pub steps : List Step
  pub clause : List Literal

abbrev pub clause_of : Line → List Literal
clause_of line = line.clause

-- the line that comes of a start and steps
abbrev pub line_from : List (List Literal) → ClauseId → List Step → Line
line_from cs start steps = record { start = start; steps = steps; clause = resolvents cs (clause_at cs start) steps }

-- the line comes from these clauses by resolvents
pub record Follows (cs : List (List Literal)) (line : Line) : Type 0 where
  pub start_in : line.start.0 < length cs
  pub steps_in : StepsAreIn (length cs) line.steps
  pub result : line.clause ≡ resolvents cs (clause_at cs line.start) line.steps

-- the lines whose starts, steps and clauses stand in three lists
unfoldable pub lines_of : List ClauseId → List (List Step) → List (List Literal) → List Line
lines_of [] ts cs = []
lines_of (s ∷ ss) [] cs = []
lines_of (s ∷ ss) (t ∷ ts) [] = []
lines_of (s ∷ ss) (t ∷ ts) (c ∷ cs) = record { start = s; steps = t; clause = c } ∷ lines_of ss ts cs
